-- How far a loop goes is read exactly where it is spelled.
use Rattle.std.proofs.Common.{◌≡◌, ℕ, List, [], ◌∷◌, ◌++◌, Option, Some, None, codes, refl, sym, ap, subst, ◌∙◌}
use Rattle.std.proofs.lemmas.Option.{same_Some}
use Rattle.xk_lexer.specs.declared.token.Sign.TheVariants as sign
use Rattle.xk_tree.specs.declared.tree.Number as tree
use Rattle.xk_tree.specs.declared.tree.Verb.{Verb}
use Rattle.xk_tree.specs.Tree.{Word, Expression, Bound, UpTo, Least}
use Rattle.xk_exprs.specs.Marks.{Mark, Name, Number, Symbol}
use Rattle.xk_exprs.specs.Spelling.{minus_marks}
use Rattle.xk_exprs.proofs.NumberLemmas.{number_found, number_again}
use Rattle.xk_syntax.specs.Spelling.{number, expr, verb, bound, BoundFits}
use Rattle.xk_syntax.specs.Readers.{bind, sign_at, open_at, word_at, this_word_at, verb_at, least_at, bound_or, bound_at}
use Rattle.xk_syntax.proofs.ListLoopLemmas.{bind_some}
use Rattle.xk_syntax.proofs.SoundnessLemmas.{sign_is, this_word_is, verb_found, expr_is}
use Rattle.xk_syntax.proofs.LeafStatementLemmas.{expr_again}

-- ---- what is read is spelled

-- these tokens are such a bound, and others
abbrev IsBound : ℕ → List Mark → Bound × List Mark → Type 0
IsBound d all x = (all ≡ bound x.0 x.1) × BoundFits d x.0

least_found : (d at : ℕ) (ts : List Mark) (x : Bound × List Mark) → least_at d at ts ≡ Some x → IsBound d (Name at (codes "Math") ∷ ts) x
unfolding least_at
least_found d at ts x e =
    let us = bind_some _ _ _ e in
    let v = bind_some _ _ _ us.2 in
    let t = bind_some _ _ _ v.2 in
    let vs = bind_some _ _ _ t.2 in
    let n = bind_some _ _ _ vs.2 in
    let ws = bind_some _ _ _ n.2 in
    let p = sign_is sign.Dot refl ts us.0 us.1 in
    let q = verb_found (codes "min") us.0 v.0 v.1 in
    let f = expr_is d v.0.1 t.0 t.1 in
    let r = sign_is sign.Comma refl t.0.1 vs.0 vs.1 in
    let g = number_found vs.0 n.0.0 n.0.1 n.1 in
    let s = sign_is sign.RightParen refl n.0.1 ws.0 ws.1 in
    let last : vs.0 ≡ number n.0.0 (Symbol sign.RightParen ∷ ws.0) = g.0 ∙ ap (number n.0.0) s in
    let behind : v.0.1 ≡ expr t.0.0 (Symbol sign.Comma ∷ number n.0.0 (Symbol sign.RightParen ∷ ws.0)) = f.0 ∙ ap (expr t.0.0) (r
    ∙ ap (λ (z : List Mark). Symbol sign.Comma ∷ z) last) in
    let all = ap (λ (z : List Mark). Name at (codes "Math") ∷ z) (p ∙ ap (λ (z : List Mark). Symbol sign.Dot ∷ z) (q ∙ ap (verb (codes "min") v.0.0) behind)) in
    subst (IsBound d (Name at (codes "Math") ∷ ts)) (same_Some _ x ws.2) (all, (refl, f.1, g.1))

pub bound_found : (d : ℕ) (ts : List Mark) (x : Bound × List Mark) → bound_at d ts ≡ Some x → (ts ≡ bound x.0 x.1) × BoundFits d x.0
unfolding bound_at
bound_found d ts x e = by (this_word_at (codes "Math") ts) refl e
  where
    by : (o : Option (ℕ × List Mark)) → this_word_at (codes "Math") ts ≡ o → bound_or d ts o ≡ Some x → IsBound d ts x
    by (Some at) h e = subst (λ (z : List Mark). IsBound d z x) (sym (this_word_is (codes "Math") ts at h)) (least_found d at.0 at.1 x e)
    by None h e =
        let n = bind_some _ _ _ e in
        let f = number_found ts n.0.0 n.0.1 n.1 in
        subst (IsBound d ts) (same_Some _ x n.2) f

-- ---- what is spelled is read again

-- no number begins with a word
minus_no_word : (text : List ℕ) (m : Option ℕ) (at n : ℕ) (after : List Mark) → this_word_at text ((minus_marks m ++ Number at n ∷ []) ++ after) ≡ None
unfolding this_word_at word_at bind
minus_no_word text None at n after = refl
minus_no_word text (Some minus) at n after = refl

number_no_word : (text : List ℕ) (n : tree.Number) (after : List Mark) → this_word_at text (number n after) ≡ None
number_no_word text n after = minus_no_word text n.minus n.at _ after

least_again : (d : ℕ) (x : Word) (v : Verb) (e : Expression) (n : tree.Number) (after : List Mark) → BoundFits d (Least x v e n)
    → least_at d x.at (Symbol sign.Dot ∷ verb (codes "min") v (expr e (Symbol sign.Comma ∷ number n (Symbol sign.RightParen ∷ after)))) ≡ Some (Least x v e n, after)
unfolding least_at verb_at this_word_at word_at open_at sign_at bind
least_again d x v e n after h =
    rw (expr_again d e sign.Comma (number n (Symbol sign.RightParen ∷ after)) h.1, number_again n (Symbol sign.RightParen ∷ after) h.2)
    (ap (λ (t : List ℕ). Some (Least (record { at = x.at; text = t }) v e n, after)) (sym h.0))

pub bound_again : (d : ℕ) (b : Bound) (after : List Mark) → BoundFits d b → bound_at d (bound b after) ≡ Some (b, after)
unfolding bound_at this_word_at word_at bind
bound_again d (Least x v e n) after h = least_again d x v e n after h
bound_again d (UpTo n) after h = ap (bound_or d (number n after)) (number_no_word (codes "Math") n after) ∙ by
  where
    by : bound_or d (number n after) None ≡ Some (UpTo n, after)
    by = rw (number_again n after h) refl
