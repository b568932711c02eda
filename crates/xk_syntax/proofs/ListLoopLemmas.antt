-- What loops over lists have read so far.
use Rattle.std.proofs.Common.{◌≡◌, ℕ, suc, ◌<◌, ◌≤◌, List, [], ◌∷◌, ◌++◌, length, Option, Some, None, refl, sym, ap, ◌∙◌, arith, length-append}
use Rattle.xk_lexer.specs.declared.token.Token.{Token}
use Rattle.xk_lexer.specs.declared.token.Sign.{Sign}
use Rattle.xk_lexer.specs.declared.token.Sign.TheVariants as sign
use Rattle.xk_lexer.specs.contracts.token.Sign as signs
use denote.Enum.Bare.{sameb}
use Rattle.xk_exprs.specs.declared.fault.SyntaxError.{SyntaxError}
use Rattle.xk_exprs.specs.declared.fault.SyntaxError.TheVariants as error
use Rattle.xk_tree.specs.Tree.{Word}
use Rattle.std.proofs.lemmas.List.{length-map}
use Rattle.std.proofs.lemmas.Option.{same_Some, cond_some}
use Rattle.xk_exprs.specs.Marks.{Mark, mark, marks, Name}
use Rattle.xk_exprs.specs.ReaderCombinators.{Goes, Refuses, loop}
use Rattle.xk_exprs.specs.ExprReaders.{whole_at}
use Rattle.xk_exprs.proofs.LoopLemmas.{loop_goes, loop_stops, loop_fails, Shrinks}
use Rattle.xk_syntax.specs.Readers.{bind, sign_of, sign_by, sign_at, word_at, pushed, one_more, next_item, more_at, commas_at}
use Rattle.xk_exprs.proofs.SoundnessLemmas.{expression_found}

-- a sign is one token
sign_takes : (s : Sign) (ts us : List Mark) → sign_at s ts ≡ Some us → length us < length ts
unfolding sign_at
sign_takes s [] us e = absurd cc
sign_takes s (m ∷ ts) us e = by (sign_of m) e
  where
    by : (o : Option Sign) → sign_by s o ts ≡ Some us → length us < suc (length ts)
    by None e = absurd cc
    by (Some t) e = omega (arith, ap length (cond_some (sameb signs.the_type t s) ts us e).1)

-- the value of a step that did not fail
pub bind_some : {A B : Type 0} (o : Option A) (f : A → Option B) (y : B) → bind o f ≡ Some y → (x : A) × (o ≡ Some x) × (f x ≡ Some y)
unfolding bind
bind_some None f y e = absurd cc
bind_some (Some x) f y e = (x, refl, e)

abbrev pub Reader : Type 0 → Type 0
Reader T = List Mark → Option (T × List Mark)

-- each turn takes a token
abbrev pub Shortens : {T : Type 0} → (List Mark → Option (List Mark)) → Reader T → Type 0
Shortens {T = T} goes_on item = (ts us : List Mark) (x : T × List Mark) → goes_on ts ≡ Some us → item us ≡ Some x → length x.1 < length ts

pub turn_shrinks : {T : Type 0} (goes_on : List Mark → Option (List Mark)) (item : Reader T) → Shortens goes_on item → Shrinks (next_item goes_on item)
unfolding next_item
turn_shrinks {T = T} goes_on item s xs ts ys us e = by (goes_on ts) refl e
  where
    inner : (after : List Mark) → goes_on ts ≡ Some after → (o : Option (T × List Mark)) → item after ≡ o → pushed xs o ≡ Goes ys us → length us < length ts
    inner after h None k e = absurd cc
    inner after h (Some x) k e = let lt = s ts after x h k in let q : us ≡ x.1 = cc in omega (arith, ap length q)

    by : (o : Option (List Mark)) → goes_on ts ≡ o → one_more item xs o ≡ Goes ys us → length us < length ts
    by None h e = absurd cc
    by (Some after) h e = inner after h (item after) refl e

pub more_refused : {T : Type 0} (e : SyntaxError) (goes_on : List Mark → Option (List Mark)) (item : Reader T) (xs : List T) (ts us : List Mark) → Some us ≡ goes_on ts
    → Refuses e (item us) → Refuses e (more_at goes_on item xs ts)
unfolding more_at next_item
more_refused (error.Fault f) goes_on item xs ts us h r = loop_fails (next_item goes_on item) xs ts (ap (one_more item xs) (sym h) ∙ ap (pushed xs) r)
more_refused error.OutOfMemory goes_on item xs ts us h r = tt

pub more_read : {T : Type 0} (goes_on : List Mark → Option (List Mark)) (item : Reader T) → Shortens goes_on item
    → (xs : List T) (ts us : List Mark) (x : T × List Mark) (ys : List T) (z : Option (List T × List Mark)) → Some us ≡ goes_on ts → item us ≡ Some x → ys ≡ xs ++ x.0 ∷ []
    → more_at goes_on item xs ts ≡ z → more_at goes_on item ys x.1 ≡ z
unfolding more_at next_item
more_read goes_on item s xs ts us x ys z h r e so_far =
    ap (λ (l : List _). loop (next_item goes_on item) l x.1) e
    ∙ sym (loop_goes (next_item goes_on item) (turn_shrinks goes_on item s) xs ts (xs ++ x.0 ∷ []) x.1 (ap (one_more item xs) (sym h) ∙ ap (pushed xs) r))
    ∙ so_far

pub no_more : {T : Type 0} (goes_on : List Mark → Option (List Mark)) (item : Reader T) (xs : List T) (ts : List Mark) → None ≡ goes_on ts
    → more_at goes_on item xs ts ≡ Some (xs, ts)
unfolding more_at next_item
no_more goes_on item xs ts h = loop_stops (next_item goes_on item) xs ts (ap (one_more item xs) (sym h))

pub shorter : {T : Type 0} (goes_on : List Mark → Option (List Mark)) (item : Reader T) → Shortens goes_on item → (ts us vs : List Token) (x : T)
    → Some (marks us) ≡ goes_on (marks ts) → item (marks us) ≡ Some (x, marks vs) → length vs < length ts
shorter goes_on item s ts us vs x h r = let lt = s (marks ts) (marks us) (x, marks vs) (sym h) r in omega (arith, length-map ts mark, length-map us mark, length-map vs mark)

-- ---- commas

-- an item leaves no more tokens than there were
abbrev pub Takes : {T : Type 0} → Reader T → Type 0
Takes {T = T} item = (ts : List Mark) (x : T × List Mark) → item ts ≡ Some x → length x.1 ≤ length ts

pub comma_shortens : {T : Type 0} (item : Reader T) → Takes item → Shortens (sign_at sign.Comma) item
comma_shortens item t ts us x h r = let p = sign_takes sign.Comma ts us h in let q = t us x r in omega arith

pub first_refused : {T : Type 0} (e : SyntaxError) (item : Reader T) (ts : List Mark) → Refuses e (item ts) → Refuses e (commas_at item ts)
unfolding commas_at bind
first_refused (error.Fault f) item ts h = rw h refl
first_refused error.OutOfMemory item ts h = tt

pub first_read : {T : Type 0} (item : Reader T) (ts : List Mark) (x : T × List Mark) (ys : List T) → item ts ≡ Some x → ys ≡ x.0 ∷ []
    → more_at (sign_at sign.Comma) item ys x.1 ≡ commas_at item ts
unfolding commas_at bind
first_read item ts x ys h e = rw (h, e) refl

pub word_takes : Takes word_at
unfolding word_at
word_takes [] x e = absurd cc
word_takes (Name at text ∷ ts) x e = let q = same_Some _ x e in omega (arith, ap (λ (z : Word × List Mark). length z.1) q)
word_takes (_ ∷ ts) x e = absurd cc

pub expr_takes : (d : ℕ) → Takes (whole_at d)
expr_takes d ts x e =
    let f = expression_found d ts x.0 x.1 e in
    omega (arith, ap length f.1, length-append f.0 x.1)
