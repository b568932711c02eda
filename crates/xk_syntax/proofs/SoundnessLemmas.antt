-- What is read is spelled by the tokens that were taken.
use Rattle.std.proofs.Common.{◌≡◌, ℕ, suc, List, [], ◌∷◌, ◌++◌, length, Option, Some, None, codes, true, false, refl, sym, ap, subst, ◌∙◌, arith}
use Rattle.std.specs.Str.{bytes_eq}
use Rattle.std.proofs.lemmas.Slice.Eq.{bytes_eq-Decides}
use Rattle.std.proofs.lemmas.Option.{same_Some, cond_some}
use Rattle.xk_types.specs.declared.instr.Comparison.{Comparison}
use Rattle.xk_lexer.specs.declared.token.Sign.{Sign}
use Rattle.xk_lexer.specs.declared.token.Sign.TheVariants as sign
use Rattle.xk_lexer.specs.contracts.token.Sign as signs
use Rattle.xk_lexer.specs.declared.token.Keyword.{Keyword}
use Rattle.xk_lexer.specs.declared.token.Keyword.TheVariants as keyword
use Rattle.xk_lexer.specs.contracts.token.Keyword as keywords
use denote.Enum.Bare.{sameb, same_true}
use Rattle.xk_tree.specs.declared.tree.Operator.TheVariants as operator
use Rattle.xk_tree.specs.declared.tree.TypeName.{TypeName}
use Rattle.xk_tree.specs.declared.tree.Verb.{Verb}
use Rattle.xk_tree.specs.declared.tree.Binding.{Binding}
use Rattle.xk_tree.specs.Tree.{Word, Expression, Source, Statement, ParamValue}
use Rattle.xk_exprs.specs.Marks.{Mark, Name, Operator, Open, CloseAt, Symbol, Reserved, AsyncAt, FinishAt, ClockedAt, ClockAt, LongAt, sign_mark, keyword_mark}
use Rattle.xk_exprs.specs.Spelling.{Spells, SpellsTerm}
use Rattle.xk_exprs.specs.ExprReaders.{whole_at, whole_term_at}
use Rattle.xk_exprs.proofs.SoundnessLemmas.{expression_found, term_found}
use Rattle.xk_syntax.specs.Spelling.{word, expr, comparison_sign, binding_word, type_name, type_part, verb, source, stmt, param, IsExpr, IsTerm, SourceFits, DeclareFits, Fits, dangles}
use Rattle.xk_syntax.specs.Readers.{bind, sign_at, keyword_at, open_at, close_at, plus_at, clock_at, word_at, this_word_at, comparison_at, type_at, verb_at, bare_verb_at, act_at, type_part_or, type_part_at, source_or, source_at, ended, declare_at, atomic_at, advance_at, print_head_at, print_at, dotted_or, dotted_at, assign_at, param_at}
use Rattle.xk_syntax.proofs.SpellingLengthLemmas.{type_longer}
use Rattle.xk_syntax.proofs.ListLoopLemmas.{bind_some, Takes}

-- ---- tokens

-- a sign without an offset
abbrev pub IsPlain : Sign → Type 0
IsPlain s = sign_mark 0 s ≡ Symbol s

other_sign : (s t : Sign) (m : Mark) → sign_mark 0 t ≡ m → IsPlain s → sameb signs.the_type t s ≡ true → Symbol s ≡ m
other_sign s t m h plain e = sym plain ∙ sym (ap (sign_mark 0) (same_true signs.the_type tt t s e)) ∙ h

pub sign_is : (s : Sign) → IsPlain s → (ts us : List Mark) → sign_at s ts ≡ Some us → ts ≡ Symbol s ∷ us
unfolding sign_at
sign_is s plain [] us e = absurd cc
sign_is s plain (Symbol t ∷ ts) us e =
    let g = cond_some (sameb signs.the_type t s) ts us e in
    let q = same_true signs.the_type tt t s g.0 in
    rw (q, g.1) refl
sign_is s plain (Open at ∷ ts) us e =
    let g = cond_some (sameb signs.the_type sign.LeftParen s) ts us e in
    let q = other_sign s sign.LeftParen (Open 0) refl plain g.0 in
    absurd cc
sign_is s plain (CloseAt at ∷ ts) us e =
    let g = cond_some (sameb signs.the_type sign.RightBrace s) ts us e in
    let q = other_sign s sign.RightBrace (CloseAt 0) refl plain g.0 in
    absurd cc
sign_is s plain (Operator at operator.Plus ∷ ts) us e =
    let g = cond_some (sameb signs.the_type sign.Plus s) ts us e in
    let q = other_sign s sign.Plus (Operator 0 operator.Plus) refl plain g.0 in
    absurd cc
sign_is s plain (Operator at operator.Minus ∷ ts) us e =
    let g = cond_some (sameb signs.the_type sign.Minus s) ts us e in
    let q = other_sign s sign.Minus (Operator 0 operator.Minus) refl plain g.0 in
    absurd cc
sign_is s plain (Operator at operator.Times ∷ ts) us e =
    let g = cond_some (sameb signs.the_type sign.Star s) ts us e in
    let q = other_sign s sign.Star (Operator 0 operator.Times) refl plain g.0 in
    absurd cc
sign_is s plain (_ ∷ ts) us e = absurd cc

-- a reserved word without an offset
abbrev pub IsPlainWord : Keyword → Type 0
IsPlainWord k = keyword_mark 0 k ≡ Reserved k

other_word : (k l : Keyword) (m : Mark) → keyword_mark 0 l ≡ m → IsPlainWord k → sameb keywords.the_type l k ≡ true → Reserved k ≡ m
other_word k l m h plain e = sym plain ∙ sym (ap (keyword_mark 0) (same_true keywords.the_type tt l k e)) ∙ h

pub keyword_is : (k : Keyword) → IsPlainWord k → (ts us : List Mark) → keyword_at k ts ≡ Some us → ts ≡ Reserved k ∷ us
unfolding keyword_at
keyword_is k plain [] us e = absurd cc
keyword_is k plain (Reserved l ∷ ts) us e =
    let g = cond_some (sameb keywords.the_type l k) ts us e in
    let q = same_true keywords.the_type tt l k g.0 in
    rw (q, g.1) refl
keyword_is k plain (AsyncAt at ∷ ts) us e =
    let g = cond_some (sameb keywords.the_type keyword.Async k) ts us e in
    let q = other_word k keyword.Async (AsyncAt 0) refl plain g.0 in
    absurd cc
keyword_is k plain (FinishAt at ∷ ts) us e =
    let g = cond_some (sameb keywords.the_type keyword.Finish k) ts us e in
    let q = other_word k keyword.Finish (FinishAt 0) refl plain g.0 in
    absurd cc
keyword_is k plain (ClockedAt at ∷ ts) us e =
    let g = cond_some (sameb keywords.the_type keyword.Clocked k) ts us e in
    let q = other_word k keyword.Clocked (ClockedAt 0) refl plain g.0 in
    absurd cc
keyword_is k plain (ClockAt at ∷ ts) us e =
    let g = cond_some (sameb keywords.the_type keyword.Clock k) ts us e in
    let q = other_word k keyword.Clock (ClockAt 0) refl plain g.0 in
    absurd cc
keyword_is k plain (LongAt at ∷ ts) us e =
    let g = cond_some (sameb keywords.the_type keyword.Long k) ts us e in
    let q = other_word k keyword.Long (LongAt 0) refl plain g.0 in
    absurd cc
keyword_is k plain (_ ∷ ts) us e = absurd cc

pub open_is : (ts : List Mark) (x : ℕ × List Mark) → open_at ts ≡ Some x → ts ≡ Open x.0 ∷ x.1
unfolding open_at
open_is [] x e = absurd cc
open_is (Open at ∷ ts) x e = rw (sym (same_Some _ x e)) refl
open_is (_ ∷ ts) x e = absurd cc

pub close_is : (ts : List Mark) (x : ℕ × List Mark) → close_at ts ≡ Some x → ts ≡ CloseAt x.0 ∷ x.1
unfolding close_at
close_is [] x e = absurd cc
close_is (CloseAt at ∷ ts) x e = rw (sym (same_Some _ x e)) refl
close_is (_ ∷ ts) x e = absurd cc

plus_is : (ts : List Mark) (x : ℕ × List Mark) → plus_at ts ≡ Some x → ts ≡ Operator x.0 operator.Plus ∷ x.1
unfolding plus_at
plus_is [] x e = absurd cc
plus_is (Operator at operator.Plus ∷ ts) x e = rw (sym (same_Some _ x e)) refl
plus_is (Operator at operator.Minus ∷ ts) x e = absurd cc
plus_is (Operator at operator.Times ∷ ts) x e = absurd cc
plus_is (_ ∷ ts) x e = absurd cc

clock_is : (ts : List Mark) (x : ℕ × List Mark) → clock_at ts ≡ Some x → ts ≡ ClockAt x.0 ∷ x.1
unfolding clock_at
clock_is [] x e = absurd cc
clock_is (ClockAt at ∷ ts) x e = rw (sym (same_Some _ x e)) refl
clock_is (_ ∷ ts) x e = absurd cc

pub word_is : (ts : List Mark) (x : Word × List Mark) → word_at ts ≡ Some x → ts ≡ Name x.0.at x.0.text ∷ x.1
unfolding word_at
word_is [] x e = absurd cc
word_is (Name at text ∷ ts) x e = rw (sym (same_Some _ x e)) refl
word_is (_ ∷ ts) x e = absurd cc

pub this_word_is : (text : List ℕ) (ts : List Mark) (x : ℕ × List Mark) → this_word_at text ts ≡ Some x → ts ≡ Name x.0 text ∷ x.1
unfolding this_word_at
this_word_is text ts x e =
    let a = bind_some _ _ _ e in
    let g = cond_some (bytes_eq a.0.0.text text) (a.0.0.at, a.0.1) x a.2 in
    let t : a.0.0.text ≡ text = (bytes_eq-Decides a.0.0.text text).0 g.0 in
    let p = word_is ts a.0 a.1 in
    rw (sym g.1) cc

pub comparison_is : (ts : List Mark) (x : Comparison × List Mark) → comparison_at ts ≡ Some x → ts ≡ Symbol (comparison_sign x.0) ∷ x.1
unfolding comparison_at bind
comparison_is [] x e = absurd cc
comparison_is (Symbol sign.Equal ∷ ts) x e = rw (sym (same_Some _ x e)) refl
comparison_is (Symbol sign.NotEqual ∷ ts) x e = rw (sym (same_Some _ x e)) refl
comparison_is (Symbol sign.Less ∷ ts) x e = rw (sym (same_Some _ x e)) refl
comparison_is (Symbol sign.LessEqual ∷ ts) x e = rw (sym (same_Some _ x e)) refl
comparison_is (Symbol sign.Greater ∷ ts) x e = rw (sym (same_Some _ x e)) refl
comparison_is (Symbol sign.GreaterEqual ∷ ts) x e = rw (sym (same_Some _ x e)) refl
comparison_is (Symbol _ ∷ ts) x e = absurd cc
comparison_is (_ ∷ ts) x e = absurd cc

type_is : (ts : List Mark) (x : TypeName × List Mark) → type_at ts ≡ Some x → ts ≡ type_name x.0 x.1
unfolding type_at
type_is [] x e = absurd cc
type_is (ClockAt at ∷ ts) x e = rw (sym (same_Some _ x e)) refl
type_is (LongAt at ∷ ts) x e = rw (sym (same_Some _ x e)) refl
type_is (_ ∷ ts) x e = absurd cc

-- ---- words that say what is done

pub verb_found : (text : List ℕ) (ts : List Mark) (x : Verb × List Mark) → verb_at text ts ≡ Some x → ts ≡ verb text x.0 x.1
unfolding verb_at
verb_found text ts x e =
    let a = bind_some _ _ _ e in
    let b = bind_some _ _ _ a.2 in
    let p = this_word_is text ts a.0 a.1 in
    let q = open_is a.0.1 b.0 b.1 in
    rw (sym (same_Some _ x b.2)) cc

bare_verb_found : (text : List ℕ) (ts : List Mark) (x : Verb × List Mark) → bare_verb_at text ts ≡ Some x → ts ≡ verb text x.0 (Symbol sign.RightParen ∷ x.1)
unfolding bare_verb_at
bare_verb_found text ts x e =
    let a = bind_some _ _ _ e in
    let b = bind_some _ _ _ a.2 in
    let p = verb_found text ts a.0 a.1 in
    let q = sign_is sign.RightParen refl a.0.1 b.0 b.1 in
    rw (sym (same_Some _ x b.2)) cc

act_found : (text : List ℕ) (ts : List Mark) (x : Verb × List Mark) → act_at text ts ≡ Some x → ts ≡ Symbol sign.Dot ∷ verb text x.0 (Symbol sign.RightParen ∷ x.1)
unfolding act_at
act_found text ts x e =
    let a = bind_some _ _ _ e in
    let p = sign_is sign.Dot refl ts a.0 a.1 in
    let q = bare_verb_found text a.0 x a.2 in
    cc

-- ---- parameters

pub param_found : (ts : List Mark) (x : ParamValue × List Mark) → param_at ts ≡ Some x → ts ≡ param x.0 x.1
unfolding param_at
param_found ts x e =
    let a = bind_some _ _ _ e in
    let b = bind_some _ _ _ a.2 in
    let ty = bind_some _ _ _ b.2 in
    let p = word_is ts a.0 a.1 in
    let q = sign_is sign.Colon refl a.0.1 b.0 b.1 in
    let r = type_is b.0 ty.0 ty.1 in
    rw (sym (same_Some _ x ty.2)) cc

pub param_takes : Takes param_at
param_takes ts x e = omega (arith, ap length (param_found ts x e), type_longer x.0.takes x.1)

-- ---- statements that hold none

-- it is an expression within its limits that stands here
pub expr_is : (d : ℕ) (ts : List Mark) (x : Expression × List Mark) → whole_at d ts ≡ Some x → (ts ≡ expr x.0 x.1) × IsExpr d x.0
expr_is d ts x e =
    let f = expression_found d ts x.0 x.1 e in
    let s = f.2.spelled in
    (f.1 ∙ ap (λ (z : List Mark). z ++ x.1) s, subst (λ (z : List Mark). Spells d z x.0) s f.2)

term_is : (d : ℕ) (ts : List Mark) (x : Expression × List Mark) → whole_term_at d ts ≡ Some x → (ts ≡ expr x.0 x.1) × IsTerm d x.0
term_is d ts x e =
    let f = term_found d ts x.0 x.1 e in
    let s = f.2.spells.spelled in
    (f.1 ∙ ap (λ (z : List Mark). z ++ x.1) s, subst (λ (z : List Mark). SpellsTerm d z x.0) s f.2)

type_part_found : (ts : List Mark) (x : Option TypeName × List Mark) → type_part_at ts ≡ Some x → ts ≡ type_part x.0 x.1
unfolding type_part_at
type_part_found ts x e = by (sign_at sign.Colon ts) refl e
  where
    by : (o : Option (List Mark)) → sign_at sign.Colon ts ≡ o → type_part_or ts o ≡ Some x → ts ≡ type_part x.0 x.1
    by None h e = rw (sym (same_Some _ x e)) refl
    by (Some us) h e =
        let a = bind_some _ _ _ e in
        let p = sign_is sign.Colon refl ts us h in
        let q = type_is us a.0 a.1 in
        rw (sym (same_Some _ x a.2)) cc

source_found : (d : ℕ) (ts : List Mark) (x : Source × List Mark) → source_at d ts ≡ Some x → (ts ≡ source x.0 x.1) × SourceFits d x.0
unfolding source_at
source_found d ts x e = by (clock_at ts) refl e
  where
    by : (o : Option (ℕ × List Mark)) → clock_at ts ≡ o → source_or d ts o ≡ Some x → (ts ≡ source x.0 x.1) × SourceFits d x.0
    by None h e =
        let a = bind_some _ _ _ e in
        subst (λ (z : Source × List Mark). (ts ≡ source z.0 z.1) × SourceFits d z.0) (same_Some _ x a.2) (expr_is d ts a.0 a.1)
    by (Some at) h e =
        let a = bind_some _ _ _ e in
        let p = clock_is ts at h in
        let q = act_found (codes "make") at.1 a.0 a.1 in
        subst (λ (z : Source × List Mark). (ts ≡ source z.0 z.1) × SourceFits d z.0) (same_Some _ x a.2) (cc, tt)

-- a statement that holds none, behind the tokens in front of it
pub record IsFlat (d : ℕ) (all : List Mark) (x : Statement × List Mark) : Type 0 where
  pub spelled : all ≡ stmt x.0 x.1
  pub fits : (hidden : List ℕ) → Fits (suc d) hidden x.0
  pub closed : dangles x.0 ≡ false

-- with its `;`
pub flat_ended : (d : ℕ) (all ts : List Mark) (s : Statement) (x : Statement × List Mark) → ended s ts ≡ Some x → ((us : List Mark) → ts ≡ Symbol sign.Semicolon ∷ us
    → IsFlat d all (s, us)) → IsFlat d all x
flat_ended d all ts s x e f =
    let a = bind_some _ _ _ e in
    subst (IsFlat d all) (same_Some _ x a.2) (f a.0 (sign_is sign.Semicolon refl ts a.0 a.1))

pub declare_found : (d : ℕ) (b : Binding) → ((r : Source) → SourceFits d r → DeclareFits d b r) → (ts : List Mark) (x : Statement × List Mark) → declare_at d b ts ≡ Some x
    → IsFlat d (Reserved (binding_word b) ∷ ts) x
unfolding declare_at
declare_found d b fit ts x e =
    let w = bind_some _ _ _ e in
    let ty = bind_some _ _ _ w.2 in
    let us = bind_some _ _ _ ty.2 in
    let r = bind_some _ _ _ us.2 in
    let p = word_is ts w.0 w.1 in
    let q = type_part_found w.0.1 ty.0 ty.1 in
    let s = sign_is sign.Assign refl ty.0.1 us.0 us.1 in
    let f = source_found d us.0 r.0 r.1 in
    flat_ended d _ r.0.1 _ x r.2 (λ vs h. record { spelled = cc; fits = λ o. fit r.0.0 f.1; closed = refl })

pub atomic_found : (d : ℕ) (ts : List Mark) (x : Statement × List Mark) → atomic_at d ts ≡ Some x → IsFlat d (Reserved keyword.Atomic ∷ ts) x
unfolding atomic_at
atomic_found d ts x e =
    let w = bind_some _ _ _ e in
    let us = bind_some _ _ _ w.2 in
    let v = bind_some _ _ _ us.2 in
    let at = bind_some _ _ _ v.2 in
    let t = bind_some _ _ _ at.2 in
    let p = word_is ts w.0 w.1 in
    let q = sign_is sign.Assign refl w.0.1 us.0 us.1 in
    let r = word_is us.0 v.0 v.1 in
    let s = plus_is v.0.1 at.0 at.1 in
    let f = term_is d at.0.1 t.0 t.1 in
    flat_ended d _ t.0.1 _ x t.2 (λ vs h. record { spelled = cc; fits = λ o. f.1; closed = refl })

pub advance_found : (d at : ℕ) (ts : List Mark) (x : Statement × List Mark) → advance_at at ts ≡ Some x → IsFlat d (ClockAt at ∷ ts) x
unfolding advance_at
advance_found d at ts x e =
    let v = bind_some _ _ _ e in
    let p = act_found (codes "advanceAll") ts v.0 v.1 in
    flat_ended d _ v.0.1 _ x v.2 (λ us h. record { spelled = cc; fits = λ o. tt; closed = refl })

print_head_found : (ts : List Mark) (x : (ℕ × Verb) × List Mark) → print_head_at ts ≡ Some x
    → ts ≡ Symbol sign.Dot ∷ Name x.0.0 (codes "OUT") ∷ Symbol sign.Dot ∷ verb (codes "println") x.0.1 x.1
unfolding print_head_at
print_head_found ts x e =
    let us = bind_some _ _ _ e in
    let w = bind_some _ _ _ us.2 in
    let vs = bind_some _ _ _ w.2 in
    let v = bind_some _ _ _ vs.2 in
    let p = sign_is sign.Dot refl ts us.0 us.1 in
    let q = this_word_is (codes "OUT") us.0 w.0 w.1 in
    let r = sign_is sign.Dot refl w.0.1 vs.0 vs.1 in
    let s = verb_found (codes "println") vs.0 v.0 v.1 in
    rw (sym (same_Some _ x v.2)) cc

pub print_found : (d : ℕ) (ts : List Mark) (x : Statement × List Mark) → print_at d ts ≡ Some x → IsFlat d (Reserved keyword.Console ∷ ts) x
unfolding print_at
print_found d ts x e =
    let h = bind_some _ _ _ e in
    let t = bind_some _ _ _ h.2 in
    let us = bind_some _ _ _ t.2 in
    let p = print_head_found ts h.0 h.1 in
    let f = expr_is d h.0.1 t.0 t.1 in
    let q = sign_is sign.RightParen refl t.0.1 us.0 us.1 in
    flat_ended d _ us.0 _ x us.2 (λ vs h. record { spelled = cc; fits = λ o. f.1; closed = refl })

pub dotted_found : (d : ℕ) (w : Word) (ts : List Mark) (x : Statement × List Mark) → dotted_at w ts ≡ Some x → IsFlat d (word w (Symbol sign.Dot ∷ ts)) x
unfolding dotted_at
dotted_found d w ts x e = by (this_word_at (codes "resume") ts) e
  where
    by : (o : Option (ℕ × List Mark)) → dotted_or w ts o ≡ Some x → IsFlat d (word w (Symbol sign.Dot ∷ ts)) x
    by (Some n) e =
        let v = bind_some _ _ _ e in
        let p = bare_verb_found (codes "resume") ts v.0 v.1 in
        flat_ended d _ v.0.1 _ x v.2 (λ us h. record { spelled = cc; fits = λ o. tt; closed = refl })
    by None e =
        let v = bind_some _ _ _ e in
        let p = bare_verb_found (codes "drop") ts v.0 v.1 in
        flat_ended d _ v.0.1 _ x v.2 (λ us h. record { spelled = cc; fits = λ o. tt; closed = refl })

pub assign_found : (d : ℕ) (w : Word) (ts : List Mark) (x : Statement × List Mark) → assign_at d w ts ≡ Some x → IsFlat d (word w ts) x
unfolding assign_at
assign_found d w ts x e =
    let us = bind_some _ _ _ e in
    let t = bind_some _ _ _ us.2 in
    let p = sign_is sign.Assign refl ts us.0 us.1 in
    let f = expr_is d us.0 t.0 t.1 in
    flat_ended d _ t.0.1 _ x t.2 (λ vs h. record { spelled = cc; fits = λ o. f.1; closed = refl })
