-- Statements are read exactly where they are spelled.
use Rattle.std.proofs.Common.{◌≡◌, ◌≢◌, ◌⊎◌, inl, inr, ℕ, zero, suc, List, [], ◌∷◌, length, Option, Some, None, Bool, true, false, refl, sym, ap, subst, ◌∙◌, arith}
use Rattle.std.specs.List.{AllByRecursion}
use Rattle.std.proofs.lemmas.Option.{same_Some}
use Rattle.xk_types.specs.declared.instr.Comparison.{Comparison}
use Rattle.xk_types.specs.declared.instr.Comparison.TheVariants as comparison
use Rattle.xk_lexer.specs.declared.token.Sign.TheVariants as sign
use Rattle.xk_lexer.specs.declared.token.Keyword.TheVariants as keyword
use Rattle.xk_tree.specs.declared.tree.Binding.TheVariants as binding
use Rattle.xk_tree.specs.declared.tree.Written.{Written}
use Rattle.xk_tree.specs.declared.tree.Written.TheVariants as written
use Rattle.xk_tree.specs.declared.tree.TypeName.{TypeName}
use Rattle.xk_tree.specs.declared.tree.Verb.{Verb}
use Rattle.xk_tree.specs.declared.tree.Number as tree
use Rattle.xk_tree.specs.Tree.{Word, Expression, Source, Bound, Clocks, Statement, Statements, Done, More, listed, Block, Empty, Declare, Assign, Atomic, If, IfElse, For, Async, Finish, Call, Resume, Drop, AdvanceAll, Print}
use Rattle.xk_exprs.specs.Marks.{Mark, Name, Open, CloseAt, Symbol, Reserved, AsyncAt, FinishAt, ClockedAt, ClockAt}
use Rattle.xk_exprs.specs.declared.fault.SyntaxError.{SyntaxError}
use Rattle.xk_exprs.specs.declared.fault.SyntaxError.TheVariants as error
use Rattle.xk_exprs.specs.ReaderCombinators.{Refuses}
use Rattle.xk_exprs.specs.Spelling.{IsNumber}
use Rattle.xk_exprs.specs.ExprReaders.{whole_at}
use Rattle.xk_exprs.proofs.NumberLemmas.{number_found, number_again}
use Rattle.xk_syntax.specs.Spelling.{word, number, expr, comparison_sign, bound, row, commas, hidden_text, hidden_clock, clocked_finish, inside, clocked_start, start, stmt, stmts, dangles, IsExpr, BoundFits, WrittenFits, ClocksFit, Fits, AllFit}
use Rattle.xk_syntax.specs.Laws.{Settles, StatementFound, StatementAgain}
use Rattle.xk_syntax.specs.Readers.{bind, sign_at, keyword_at, open_at, close_at, word_at, comparison_at, more_at, Read, call_at, undotted, named_or, named_at, flat_by, flat_at, Head, Whole, Brace, Condition, Range, Start, Wait, Hide, whole, condition_at, range_at, list_open_at, clocks_or, clocks_at, start_at, hiding_by, hiding_at, head_by, stmt_head_at, ahead_or, ahead_at, stmts_at, else_or, else_at, rest_at, stmt_at}
use Rattle.xk_syntax.proofs.ListLoopLemmas.{Shortens, bind_some, word_takes, more_refused, no_more}
use Rattle.xk_syntax.proofs.SoundnessLemmas.{sign_is, keyword_is, open_is, close_is, word_is, comparison_is, expr_is, IsFlat, flat_ended, declare_found, atomic_found, advance_found, print_found, dotted_found, assign_found}
use Rattle.xk_syntax.proofs.SpellingLengthLemmas.{stmt_longer}
use Rattle.xk_syntax.proofs.LoopBoundLemmas.{bound_found, bound_again}
use Rattle.xk_syntax.proofs.ListSpellingLemmas.{listed_found, EachFound, more_found, EachAgain, more_again, ItemAgain, commas_found, commas_again}
use Rattle.xk_syntax.proofs.LeafStatementLemmas.{HoldsNone, expr_again, flat_again}

-- ---- heads

-- a head's tokens, and those that come after them
abbrev head : Head → List Mark → List Mark
head (Whole s) after = stmt s after
head Brace after = Symbol sign.LeftBrace ∷ after
head (Condition at l c r) after = Reserved keyword.If ∷ Open at ∷ expr l (Symbol (comparison_sign c) ∷ expr r (Symbol sign.RightParen ∷ after))
head (Range at w lo b) after = Reserved keyword.For ∷ Open at ∷ word w (Reserved keyword.In ∷ number lo (Symbol sign.DotDot ∷ bound b (Symbol sign.RightParen ∷ after)))
head (Start at cs) after = start at cs after
head (Wait at) after = FinishAt at ∷ after
head (Hide at finish) after = ClockedAt at ∷ FinishAt finish ∷ after

abbrev HeadFits : ℕ → List ℕ → Head → Type 0
HeadFits d o (Whole s) = Fits (suc d) o s × (dangles s ≡ false)
HeadFits d o Brace = Unit {0}
HeadFits d o (Condition at l c r) = IsExpr d l × IsExpr d r
HeadFits d o (Range at w lo b) = IsNumber lo × BoundFits d b
HeadFits d o (Start at cs) = ClocksFit o cs
HeadFits d o (Wait at) = Unit {0}
HeadFits d o (Hide at finish) = Unit {0}

-- these tokens are such a head, and others
record IsHead (d : ℕ) (o : List ℕ) (all : List Mark) (x : Head × List Mark) : Type 0 where
  spelled : all ≡ head x.0 x.1
  fits : HeadFits d o x.0

call_found : (d : ℕ) (w : Word) (at : ℕ × List Mark) (x : Statement × List Mark) → call_at d w at ≡ Some x → IsFlat d (word w (Open at.0 ∷ at.1)) x
unfolding call_at
call_found d w at x e =
    let es = bind_some _ _ _ e in
    let f = listed_found (whole_at d) expr (IsExpr d) (expr_is d) at.1 es.0 es.1 in
    let p = f.0 in
    flat_ended d _ es.0.1 _ x es.2 (λ us h. record { spelled = cc; fits = λ o. f.1; closed = refl })

named_found : (d : ℕ) (w : Word) (ts : List Mark) (x : Statement × List Mark) → named_at d w ts ≡ Some x → IsFlat d (word w ts) x
unfolding named_at
named_found d w ts x e = by (open_at ts) refl e
  where
    dotted : (o : Option (List Mark)) → sign_at sign.Dot ts ≡ o → undotted d w ts o ≡ Some x → IsFlat d (word w ts) x
    dotted None h e = assign_found d w ts x e
    dotted (Some us) h e = subst (λ (z : List Mark). IsFlat d (word w z) x) (sym (sign_is sign.Dot refl ts us h)) (dotted_found d w us x e)

    by : (o : Option (ℕ × List Mark)) → open_at ts ≡ o → named_or d w ts o ≡ Some x → IsFlat d (word w ts) x
    by None h e = dotted (sign_at sign.Dot ts) refl e
    by (Some at) h e = subst (λ (z : List Mark). IsFlat d (word w z) x) (sym (open_is ts at h)) (call_found d w at x e)

flat_by_found : (d : ℕ) (m : Mark) (ts : List Mark) (x : Statement × List Mark) → flat_by d m ts ≡ Some x → IsFlat d (m ∷ ts) x
flat_by_found d (Symbol sign.Semicolon) ts x e = subst (IsFlat d (Symbol sign.Semicolon ∷ ts)) (same_Some _ x e) (record { spelled = refl; fits = λ o. tt; closed = refl })
flat_by_found d (Name at text) ts x e = named_found d (record { at = at; text = text }) ts x e
flat_by_found d (Reserved keyword.Val) ts x e = declare_found d binding.Val (λ r h. h) ts x e
flat_by_found d (Reserved keyword.Var) ts x e = declare_found d binding.Var (λ r h. h) ts x e
flat_by_found d (Reserved keyword.Atomic) ts x e = atomic_found d ts x e
flat_by_found d (Reserved keyword.Console) ts x e = print_found d ts x e
flat_by_found d (ClockAt at) ts x e = advance_found d at ts x e
flat_by_found d _ ts x e = absurd cc

flat_found : (d : ℕ) (ts : List Mark) (x : Statement × List Mark) → flat_at d ts ≡ Some x → IsFlat d ts x
unfolding flat_at bind
flat_found d [] x e = absurd cc
flat_found d (m ∷ ts) x e = flat_by_found d m ts x e

condition_found : (d : ℕ) (o : List ℕ) (ts : List Mark) (x : Head × List Mark) → condition_at d ts ≡ Some x → IsHead d o (Reserved keyword.If ∷ ts) x
unfolding condition_at
condition_found d o ts x e =
    let at = bind_some _ _ _ e in
    let l = bind_some _ _ _ at.2 in
    let c = bind_some _ _ _ l.2 in
    let r = bind_some _ _ _ c.2 in
    let us = bind_some _ _ _ r.2 in
    let p = open_is ts at.0 at.1 in
    let fl = expr_is d at.0.1 l.0 l.1 in
    let q = comparison_is l.0.1 c.0 c.1 in
    let fr = expr_is d c.0.1 r.0 r.1 in
    let s = sign_is sign.RightParen refl r.0.1 us.0 us.1 in
    subst (IsHead d o (Reserved keyword.If ∷ ts)) (same_Some _ x us.2) (record { spelled = cc; fits = (fl.1, fr.1) })

range_found : (d : ℕ) (o : List ℕ) (ts : List Mark) (x : Head × List Mark) → range_at d ts ≡ Some x → IsHead d o (Reserved keyword.For ∷ ts) x
unfolding range_at
range_found d o ts x e =
    let at = bind_some _ _ _ e in
    let w = bind_some _ _ _ at.2 in
    let us = bind_some _ _ _ w.2 in
    let lo = bind_some _ _ _ us.2 in
    let vs = bind_some _ _ _ lo.2 in
    let b = bind_some _ _ _ vs.2 in
    let zs = bind_some _ _ _ b.2 in
    let p = open_is ts at.0 at.1 in
    let q = word_is at.0.1 w.0 w.1 in
    let r = keyword_is keyword.In refl w.0.1 us.0 us.1 in
    let a = number_found us.0 lo.0.0 lo.0.1 lo.1 in
    let s = sign_is sign.DotDot refl lo.0.1 vs.0 vs.1 in
    let f = bound_found d vs.0 b.0 b.1 in
    let t = sign_is sign.RightParen refl b.0.1 zs.0 zs.1 in
    let first : ts ≡ Open at.0.0 ∷ word w.0.0 (Reserved keyword.In ∷ us.0) = cc in
    let upper : vs.0 ≡ bound b.0.0 (Symbol sign.RightParen ∷ zs.0) = f.0 ∙ ap (bound b.0.0) t in
    let both : us.0 ≡ number lo.0.0 (Symbol sign.DotDot ∷ bound b.0.0 (Symbol sign.RightParen ∷ zs.0)) = a.0 ∙ ap (number lo.0.0) (s
    ∙ ap (λ (z : List Mark). Symbol sign.DotDot ∷ z) upper) in
    let all = first ∙ ap (λ (z : List Mark). Open at.0.0 ∷ word w.0.0 (Reserved keyword.In ∷ z)) both in
    subst (IsHead d o (Reserved keyword.For ∷ ts)) (same_Some _ x zs.2) (record { spelled = ap (λ (z : List Mark). Reserved keyword.For ∷ z) all; fits = (a.1, f.1) })

list_open_is : (ts : List Mark) (x : (ℕ × ℕ) × List Mark) → list_open_at ts ≡ Some x → ts ≡ ClockedAt x.0.0 ∷ Open x.0.1 ∷ x.1
unfolding list_open_at
list_open_is [] x e = absurd cc
list_open_is (ClockedAt at ∷ ts) x e =
    let p = bind_some _ _ _ e in
    let o = open_is ts p.0 p.1 in
    subst (λ (z : (ℕ × ℕ) × List Mark). ClockedAt at ∷ ts ≡ ClockedAt z.0.0 ∷ Open z.0.1 ∷ z.1) (same_Some _ x p.2) (ap (λ (z : List Mark). ClockedAt at ∷ z) o)
list_open_is (_ ∷ ts) x e = absurd cc

abbrev IsStart : ℕ → List ℕ → List Mark → Option Clocks × List Mark → Type 0
IsStart at o ts x = (AsyncAt at ∷ ts ≡ start at x.0 x.1) × ClocksFit o x.0

clocks_found : (at : ℕ) (o : List ℕ) (ts : List Mark) (x : Option Clocks × List Mark) → clocks_at ts ≡ Some x → IsStart at o ts x
unfolding clocks_at
clocks_found at o ts x e = by (list_open_at ts) refl e
  where
    by : (p : Option ((ℕ × ℕ) × List Mark)) → list_open_at ts ≡ p → clocks_or ts p ≡ Some x → IsStart at o ts x
    by None h e = subst (IsStart at o ts) (same_Some _ x e) (refl, tt)
    by (Some p) h e =
        let ws = bind_some _ _ _ e in
        let vs = bind_some _ _ _ ws.2 in
        let q = list_open_is ts p h in
        let m = commas_found word_at word (λ w. Unit {0}) (λ ts x e. (word_is ts x e, tt)) p.1 ws.0 ws.1 in
        let r = m.spelled in
        let s = sign_is sign.RightParen refl ws.0.1 vs.0 vs.1 in
        subst (IsStart at o ts) (same_Some _ x vs.2) (cc, m.some)

start_found : (d : ℕ) (o : List ℕ) (at : ℕ) (ts : List Mark) (x : Head × List Mark) → start_at at ts ≡ Some x → IsHead d o (AsyncAt at ∷ ts) x
unfolding start_at
start_found d o at ts x e =
    let cs = bind_some _ _ _ e in
    let f = clocks_found at o ts cs.0 cs.1 in
    subst (IsHead d o (AsyncAt at ∷ ts)) (same_Some _ x cs.2) (record { spelled = f.0; fits = f.1 })

hiding_by_found : (d : ℕ) (o : List ℕ) (at : ℕ) (m : Mark) (ts : List Mark) (x : Head × List Mark) → hiding_by o at m ts ≡ Some x
    → IsHead d o (ClockedAt at ∷ m ∷ ts) x
hiding_by_found d o at (FinishAt finish) ts x e =
    subst (IsHead d o (ClockedAt at ∷ FinishAt finish ∷ ts)) (same_Some _ x e) (record { spelled = refl; fits = tt })
hiding_by_found d o at (AsyncAt a) ts x e =
    subst (IsHead d o (ClockedAt at ∷ AsyncAt a ∷ ts)) (same_Some _ x e) (record { spelled = refl; fits = refl })
hiding_by_found d o at _ ts x e = absurd cc

hiding_found : (d : ℕ) (o : List ℕ) (at : ℕ) (ts : List Mark) (x : Head × List Mark) → hiding_at o at ts ≡ Some x → IsHead d o (ClockedAt at ∷ ts) x
unfolding hiding_at bind
hiding_found d o at [] x e = absurd cc
hiding_found d o at (m ∷ ts) x e = hiding_by_found d o at m ts x e

whole_found : (d : ℕ) (o : List ℕ) (ts : List Mark) (x : Head × List Mark) → whole (flat_at d ts) ≡ Some x → IsHead d o ts x
whole_found d o ts x e =
    let s = bind_some _ _ _ e in
    let f = flat_found d ts s.0 s.1 in
    subst (IsHead d o ts) (same_Some _ x s.2) (record { spelled = f.spelled; fits = (f.fits o, f.closed) })

head_by_found : (d : ℕ) (o : List ℕ) (m : Mark) (ts : List Mark) (x : Head × List Mark) → head_by d o (m ∷ ts) m ts ≡ Some x → IsHead d o (m ∷ ts) x
head_by_found d o (Symbol sign.LeftBrace) ts x e = subst (IsHead d o (Symbol sign.LeftBrace ∷ ts)) (same_Some _ x e) (record { spelled = refl; fits = tt })
head_by_found d o (Reserved keyword.If) ts x e = condition_found d o ts x e
head_by_found d o (Reserved keyword.For) ts x e = range_found d o ts x e
head_by_found d o (AsyncAt at) ts x e = start_found d o at ts x e
head_by_found d o (FinishAt at) ts x e = subst (IsHead d o (FinishAt at ∷ ts)) (same_Some _ x e) (record { spelled = refl; fits = tt })
head_by_found d o (ClockedAt at) ts x e = hiding_found d o at ts x e
head_by_found d o m ts x e = whole_found d o (m ∷ ts) x e

head_found : (d : ℕ) (o : List ℕ) (ts : List Mark) (x : Head × List Mark) → stmt_head_at d o ts ≡ Some x → IsHead d o ts x
unfolding stmt_head_at bind
head_found d o [] x e = absurd cc
head_found d o (m ∷ ts) x e = head_by_found d o m ts x e

-- ---- what a `finish` is

-- its statement is what a `clocked finish` stands for
record IsHiding (s : Statement) : Type 0 where
  clock : Word
  type : Option TypeName
  made : Source
  inner : Statement
  again : Word
  verb : Verb
  close : ℕ
  is : s ≡ Block close (More (Declare binding.Hidden clock type made) (More inner (More (Drop again verb) Done)))

-- or the `finish` is a plain one
record IsPlain (s : Statement) : Type 0 where
  spelled : (at : ℕ) (after : List Mark) → stmt (Finish at s) after ≡ FinishAt at ∷ stmt s after
  ends : (at : ℕ) → dangles (Finish at s) ≡ dangles s
  fits : (d : ℕ) (o : List ℕ) (at : ℕ) → Fits d [] s → Fits (suc d) o (Finish at s)

view : (s : Statement) → IsHiding s ⊎ IsPlain s
view (Block close (More (Declare binding.Hidden h ty r) (More s (More (Drop g v) Done)))) =
    inl (record { clock = h; type = ty; made = r; inner = s; again = g; verb = v; close = close; is = refl })
view s = inr (record { spelled = λ at after. refl; ends = λ at. refl; fits = λ d o at h. h })

-- no block of a text makes a hidden clock
not_hiding : (d : ℕ) (o : List ℕ) (s : Statement) → IsHiding s → Fits d o s → ⊥
not_hiding zero o s k h = h
not_hiding (suc zero) o s k h = (subst (Fits 1 o) k.is h).0
not_hiding (suc (suc d)) o s k h = (subst (Fits (suc (suc d)) o) k.is h).0

plain : (d : ℕ) (o : List ℕ) (s : Statement) → Fits d o s → IsPlain s
plain d o s h = elim (view s) [
  | inl k ↦ absurd (not_hiding d o s k h)
  | inr k ↦ k
]

-- ---- statements that are read

pub record IsStmt (d : ℕ) (o : List ℕ) (all : List Mark) (x : Statement × List Mark) : Type 0 where
  pub spelled : all ≡ stmt x.0 x.1
  pub fits : Fits d o x.0
  pub settles : Settles x.0 x.1

abbrev pub FoundAt : ℕ → List ℕ → (List Mark → Read) → Type 0
FoundAt d o inner = (ts : List Mark) (x : Statement × List Mark) → inner ts ≡ Some x → IsStmt d o ts x

abbrev pub Found : ℕ → (List ℕ → List Mark → Read) → Type 0
Found d inner = (o : List ℕ) → FoundAt d o (inner o)

stmts_row : (ss : List Statement) (after : List Mark) → row stmt ss after ≡ stmts (listed ss) after
stmts_row [] after = refl
stmts_row (s ∷ ss) after = ap (stmt s) (stmts_row ss after)

all_fit : (d : ℕ) (o : List ℕ) (ss : List Statement) → AllByRecursion (Fits d o) ss → AllFit d o (listed ss)
all_fit d o [] h = tt
all_fit d o (s ∷ ss) h = (h.0, all_fit d o ss h.1)

ahead_is : (ts us : List Mark) → ahead_at ts ≡ Some us → ts ≡ us
unfolding ahead_at
ahead_is ts us e = by (close_at ts) e
  where
    by : (o : Option (ℕ × List Mark)) → ahead_or ts o ≡ Some us → ts ≡ us
    by None e = same_Some ts us e
    by (Some close) e = absurd cc

pub stmts_found : (d : ℕ) (o : List ℕ) (inner : List Mark → Read) → FoundAt d o inner → (ts : List Mark) (x : (List Statement × ℕ) × List Mark) → stmts_at inner ts ≡ Some x
    → (ts ≡ stmts (listed x.0.0) (CloseAt x.0.1 ∷ x.1)) × AllFit d o (listed x.0.0)
unfolding stmts_at
stmts_found d o inner f ts x e =
    let ss = bind_some _ _ _ e in
    let us = bind_some _ _ _ ss.2 in
    let each : EachFound ahead_at inner stmt (Fits d o) = λ ts us x h k. let i = f us x k in (ahead_is ts us h ∙ i.spelled, i.fits) in
    let m = more_found ahead_at inner stmt (Fits d o) each [] ts ss.0 ss.1 in
    let all : ss.0.0 ≡ m.others = m.all in
    let q = close_is ss.0.1 us.0 us.1 in
    let p : ts ≡ stmts (listed ss.0.0) (CloseAt us.0.0 ∷ us.0.1) =
    m.spelled ∙ ap (λ (l : List Statement). row stmt l ss.0.1) (sym all) ∙ stmts_row ss.0.0 ss.0.1 ∙ ap (stmts (listed ss.0.0)) q in
    subst (λ (z : (List Statement × ℕ) × List Mark). (ts ≡ stmts (listed z.0.0) (CloseAt z.0.1 ∷ z.1))
    × AllFit d o (listed z.0.0)) (same_Some _ x us.2) (p, all_fit d o ss.0.0 (subst (AllByRecursion (Fits d o)) (sym all) m.each))

apart : (b : Bool) → b ≡ false → b ≡ true → ⊥
apart b f t = cc

not_dangling : (s : Statement) (ts us : List Mark) → Settles s ts → keyword_at keyword.Else ts ≡ Some us → dangles s ≡ false
not_dangling s ts us h e = by (dangles s) refl
  where
    by : (b : Bool) → dangles s ≡ b → b ≡ false
    by false q = refl
    by true q = let n = h q in absurd cc

else_found : (d : ℕ) (o : List ℕ) (inner : List Mark → Read) → FoundAt d o inner → (at : ℕ) (l : Expression) (c : Comparison) (r : Expression) (s : Statement) (ts : List Mark) (x : Statement
    × List Mark) → IsExpr d l → IsExpr d r → Fits d o s → Settles s ts → else_at inner at l c r s ts ≡ Some x → IsStmt (suc d) o (head (Condition at l c r) (stmt s ts)) x
unfolding else_at
else_found d o inner f at l c r s ts x fl fr fs settles e = by (keyword_at keyword.Else ts) refl e
  where
    by : (p : Option (List Mark)) → keyword_at keyword.Else ts ≡ p → else_or inner at l c r s ts p ≡ Some x → IsStmt (suc d) o (head (Condition at l c r) (stmt s ts)) x
    by None h e = subst (IsStmt (suc d) o (head (Condition at l c r) (stmt s ts))) (same_Some _ x e) (record { spelled = refl; fits = (fl, fr, fs); settles = λ _. h })
    by (Some us) h e =
        let t = bind_some _ _ _ e in
        let i = f us t.0 t.1 in
        let p = keyword_is keyword.Else refl ts us h in
        let q : ts ≡ Reserved keyword.Else ∷ stmt t.0.0 t.0.1 = p ∙ ap (λ (z : List Mark). Reserved keyword.Else ∷ z) i.spelled in
        subst (IsStmt (suc d) o (head (Condition at l c r) (stmt s ts))) (same_Some _ x t.2) (record
        { spelled = ap (λ (z : List Mark). head (Condition at l c r) (stmt s z)) q; fits = (fl, fr, fs, i.fits, not_dangling s ts us settles h); settles = i.settles })

rest_found : (d : ℕ) (o : List ℕ) (inner : List ℕ → List Mark → Read) → Found d inner → (h : Head) (ts : List Mark) (x : Statement × List Mark) → HeadFits d o h
    → rest_at d inner o h ts ≡ Some x → IsStmt (suc d) o (head h ts) x
unfolding rest_at
rest_found d o inner f (Whole s) ts x k e = subst (IsStmt (suc d) o (stmt s ts)) (same_Some _ x e)
    (record { spelled = refl; fits = k.0; settles = λ t. absurd (apart (dangles s) k.1 t) })
rest_found d o inner f Brace ts x k e =
    let ss = bind_some _ _ _ e in
    let i = stmts_found d o (inner o) (f o) ts ss.0 ss.1 in
    subst (IsStmt (suc d) o (Symbol sign.LeftBrace ∷ ts)) (same_Some _ x ss.2) (record {
      spelled = ap
          (λ (z : List Mark). Symbol sign.LeftBrace ∷ z) i.0;
      fits = i.1;
      settles = λ t. absurd cc;
    })
rest_found d o inner f (Condition at l c r) ts x k e =
    let s = bind_some _ _ _ e in
    let i = f o ts s.0 s.1 in
    let g = else_found d o (inner o) (f o) at l c r s.0.0 s.0.1 x k.0 k.1 i.fits i.settles s.2 in
    subst (λ (z : List Mark). IsStmt (suc d) o (head (Condition at l c r) z) x) (sym i.spelled) g
rest_found d o inner f (Range at w lo b) ts x k e =
    let s = bind_some _ _ _ e in
    let i = f o ts s.0 s.1 in
    subst (IsStmt (suc d) o (head (Range at w lo b) ts)) (same_Some _ x s.2) (record {
      spelled = ap (head (Range at w lo b)) i.spelled;
      fits =
          (k.0, k.1, i.fits);
      settles = i.settles;
    })
rest_found d o inner f (Start at cs) ts x k e =
    let s = bind_some _ _ _ e in
    let i = f (inside cs o) ts s.0 s.1 in
    subst (IsStmt (suc d) o (head (Start at cs) ts)) (same_Some _ x s.2) (record { spelled = ap (head (Start at cs)) i.spelled; fits = (k, i.fits); settles = i.settles })
rest_found d o inner f (Wait at) ts x k e =
    let s = bind_some _ _ _ e in
    let i = f [] ts s.0 s.1 in
    let p = plain d [] s.0.0 i.fits in
    subst (IsStmt (suc d) o (head (Wait at) ts)) (same_Some _ x s.2) (record {
      spelled = ap (head (Wait at)) i.spelled ∙ sym (p.spelled at s.0.1);
      fits = p.fits d o at i.fits;
      settles = λ t. i.settles (sym (p.ends at) ∙ t);
    })
rest_found d o inner f (Hide at finish) ts x k e =
    let s = bind_some _ _ _ e in
    let i = f (hidden_text (suc d)) ts s.0 s.1 in
    subst (IsStmt (suc d) o (head (Hide at finish) ts)) (same_Some _ x s.2) (record { spelled = ap (head (Hide at finish)) i.spelled; fits = (refl, i.fits); settles = i.settles })

pub stmt_found : (d : ℕ) → Found d (stmt_at d)
unfolding stmt_at
stmt_found zero o ts x e = absurd cc
stmt_found (suc d) o ts x e =
    let h = bind_some _ _ _ e in
    let i = head_found d o ts h.0 h.1 in
    subst (λ (z : List Mark). IsStmt (suc d) o z x) (sym i.spelled) (rest_found d o (stmt_at d) (stmt_found d) h.0.0 h.0.1 x i.fits h.2)

-- ---- blocks so far

pub stmt_shortens : (d : ℕ) (o : List ℕ) → Shortens ahead_at (stmt_at d o)
stmt_shortens d o ts us x h e =
    let i = stmt_found d o us x e in
    omega (arith, ap length (ahead_is ts us h), ap length i.spelled, stmt_longer x.0 x.1)

pub stmts_refused : (e : SyntaxError) (inner : List Mark → Read) (ss : List Statement) (ts us all : List Mark) → more_at ahead_at inner ss ts ≡ more_at ahead_at inner [] all
    → Some us ≡ ahead_at ts → Refuses e (inner us) → Refuses e (stmts_at inner all)
unfolding stmts_at bind
stmts_refused (error.Fault f) inner ss ts us all so_far h r =
    let none : more_at ahead_at inner [] all ≡ None = sym so_far ∙ more_refused (error.Fault f) ahead_at inner ss ts us h r in
    rw none refl
stmts_refused error.OutOfMemory inner ss ts us all so_far h r = tt

stmts_end : (inner : List Mark → Read) (ss : List Statement) (ts all : List Mark) → more_at ahead_at inner ss ts ≡ more_at ahead_at inner [] all → None ≡ ahead_at ts
    → more_at ahead_at inner [] all ≡ Some (ss, ts)
stmts_end inner ss ts all so_far h = sym so_far ∙ no_more ahead_at inner ss ts h

pub stmts_unended : (e : SyntaxError) (inner : List Mark → Read) (ss : List Statement) (ts all : List Mark) → more_at ahead_at inner ss ts ≡ more_at ahead_at inner [] all
    → None ≡ ahead_at ts → Refuses e (close_at ts) → Refuses e (stmts_at inner all)
unfolding stmts_at bind
stmts_unended (error.Fault f) inner ss ts all so_far h r = rw (stmts_end inner ss ts all so_far h, r) refl
stmts_unended error.OutOfMemory inner ss ts all so_far h r = tt

pub stmts_read : (inner : List Mark → Read) (ss : List Statement) (ts all : List Mark) (close : ℕ × List Mark) → more_at ahead_at inner ss ts ≡ more_at ahead_at inner [] all
    → None ≡ ahead_at ts → close_at ts ≡ Some close → stmts_at inner all ≡ Some ((ss, close.0), close.1)
unfolding stmts_at bind
stmts_read inner ss ts all close so_far h r = rw (stmts_end inner ss ts all so_far h, r) refl

pub statement_found : StatementFound
statement_found d o ts s rest e = let i = stmt_found d o ts (s, rest) e in (i.spelled, i.fits, i.settles)

-- ---- what is spelled is read again

abbrev pub AgainAt : ℕ → List ℕ → (List Mark → Read) → Type 0
AgainAt d o inner = (s : Statement) (rest : List Mark) → Fits d o s → Settles s rest → inner (stmt s rest) ≡ Some (s, rest)

abbrev pub Again : ℕ → (List ℕ → List Mark → Read) → Type 0
Again d inner = (o : List ℕ) → AgainAt d o (inner o)

comparison_again : (c : Comparison) (after : List Mark) → comparison_at (Symbol (comparison_sign c) ∷ after) ≡ Some (c, after)
unfolding comparison_at bind
comparison_again comparison.Eq after = refl
comparison_again comparison.Ne after = refl
comparison_again comparison.Lt after = refl
comparison_again comparison.Le after = refl
comparison_again comparison.Gt after = refl
comparison_again comparison.Ge after = refl

condition_again : (d at : ℕ) (l : Expression) (c : Comparison) (r : Expression) (after : List Mark) → IsExpr d l → IsExpr d r
    → condition_at d (Open at ∷ expr l (Symbol (comparison_sign c) ∷ expr r (Symbol sign.RightParen ∷ after))) ≡ Some (Condition at l c r, after)
unfolding condition_at open_at sign_at bind
condition_again d at l c r after fl fr =
    let right = expr r (Symbol sign.RightParen ∷ after) in
    rw (expr_again d l (comparison_sign c) right fl, comparison_again c right, expr_again d r sign.RightParen after fr) refl

range_again : (d at : ℕ) (w : Word) (lo : tree.Number) (b : Bound) (after : List Mark) → IsNumber lo → BoundFits d b
    → range_at d (Open at ∷ word w (Reserved keyword.In ∷ number lo (Symbol sign.DotDot ∷ bound b (Symbol sign.RightParen ∷ after)))) ≡ Some (Range at w lo b, after)
unfolding range_at open_at word_at keyword_at sign_at bind
range_again d at w lo b after fl fb =
    rw (number_again lo (Symbol sign.DotDot ∷ bound b (Symbol sign.RightParen ∷ after)) fl, bound_again d b (Symbol sign.RightParen ∷ after) fb) refl

word_again : ItemAgain word_at word (λ w. Unit {0})
unfolding word_at
word_again w s after h = refl

each_word : (ws : List Word) → AllByRecursion (λ w. Unit {0}) ws
each_word [] = tt
each_word (w ∷ ws) = (tt, each_word ws)

clocks_again : (clocked paren : ℕ) (ws : List Word) (after : List Mark) → ws ≢ []
    → clocks_at (ClockedAt clocked ∷ Open paren ∷ commas word ws (Symbol sign.RightParen ∷ after))
    ≡ Some (Some (record { written = written.Listed clocked paren; names = ws }), after)
unfolding clocks_at list_open_at open_at sign_at bind
clocks_again clocked paren ws after h = rw (commas_again word_at word (λ w. Unit {0}) word_takes word_again ws after (each_word ws) h) refl

no_clocks : (after : List Mark) → list_open_at after ≡ None → clocks_at after ≡ Some (None, after)
unfolding clocks_at
no_clocks after none = ap (clocks_or after) none

no_brace_in_start_written : (at : ℕ) (w : Written) (ws : List Word) (after : List Mark) → close_at (clocked_start at w ws after) ≡ None
unfolding close_at
no_brace_in_start_written at (written.Listed clocked paren) ws after = refl
no_brace_in_start_written at (written.Ahead clocked) ws after = refl

no_brace_in_start : (at : ℕ) (cs : Option Clocks) (after : List Mark) → close_at (start at cs after) ≡ None
unfolding close_at
no_brace_in_start at None after = refl
no_brace_in_start at (Some cs) after = no_brace_in_start_written at cs.written cs.names after

no_brace : (s : Statement) (after : List Mark) → close_at (stmt s after) ≡ None
unfolding close_at
no_brace (Block close ss) after = refl
no_brace Empty after = refl
no_brace (Declare binding.Val w ty r) after = refl
no_brace (Declare binding.Var w ty r) after = refl
no_brace (Declare binding.Hidden w ty r) after = refl
no_brace (Assign w e) after = refl
no_brace (Atomic w v at e) after = refl
no_brace (If at l c r s) after = refl
no_brace (IfElse at l c r s t) after = refl
no_brace (For at w lo b s) after = refl
no_brace (Async at cs s) after = no_brace_in_start at cs (stmt s after)
no_brace (Finish at (Block close (More (Declare binding.Hidden h ty r) (More s (More (Drop g v) Done))))) after = refl
no_brace (Finish at s) after = refl
no_brace (Call w at es) after = refl
no_brace (Resume w v) after = refl
no_brace (Drop w v) after = refl
no_brace (AdvanceAll at v) after = refl
no_brace (Print at v e) after = refl

no_else_in_start_written : (at : ℕ) (w : Written) (ws : List Word) (after : List Mark) → keyword_at keyword.Else (clocked_start at w ws after) ≡ None
unfolding keyword_at
no_else_in_start_written at (written.Listed clocked paren) ws after = refl
no_else_in_start_written at (written.Ahead clocked) ws after = refl

no_else_in_start : (at : ℕ) (cs : Option Clocks) (after : List Mark) → keyword_at keyword.Else (start at cs after) ≡ None
unfolding keyword_at
no_else_in_start at None after = refl
no_else_in_start at (Some cs) after = no_else_in_start_written at cs.written cs.names after

no_else : (s : Statement) (after : List Mark) → keyword_at keyword.Else (stmt s after) ≡ None
unfolding keyword_at
no_else (Block close ss) after = refl
no_else Empty after = refl
no_else (Declare binding.Val w ty r) after = refl
no_else (Declare binding.Var w ty r) after = refl
no_else (Declare binding.Hidden w ty r) after = refl
no_else (Assign w e) after = refl
no_else (Atomic w v at e) after = refl
no_else (If at l c r s) after = refl
no_else (IfElse at l c r s t) after = refl
no_else (For at w lo b s) after = refl
no_else (Async at cs s) after = no_else_in_start at cs (stmt s after)
no_else (Finish at (Block close (More (Declare binding.Hidden h ty r) (More s (More (Drop g v) Done))))) after = refl
no_else (Finish at s) after = refl
no_else (Call w at es) after = refl
no_else (Resume w v) after = refl
no_else (Drop w v) after = refl
no_else (AdvanceAll at v) after = refl
no_else (Print at v e) after = refl

no_list_in_start_written : (at : ℕ) (w : Written) (ws : List Word) (after : List Mark) → list_open_at (clocked_start at w ws after) ≡ None
unfolding list_open_at open_at bind
no_list_in_start_written at (written.Listed clocked paren) ws after = refl
no_list_in_start_written at (written.Ahead clocked) ws after = refl

no_list_in_start : (at : ℕ) (cs : Option Clocks) (after : List Mark) → list_open_at (start at cs after) ≡ None
unfolding list_open_at
no_list_in_start at None after = refl
no_list_in_start at (Some cs) after = no_list_in_start_written at cs.written cs.names after

no_list : (s : Statement) (after : List Mark) → list_open_at (stmt s after) ≡ None
unfolding list_open_at open_at bind
no_list (Block close ss) after = refl
no_list Empty after = refl
no_list (Declare binding.Val w ty r) after = refl
no_list (Declare binding.Var w ty r) after = refl
no_list (Declare binding.Hidden w ty r) after = refl
no_list (Assign w e) after = refl
no_list (Atomic w v at e) after = refl
no_list (If at l c r s) after = refl
no_list (IfElse at l c r s t) after = refl
no_list (For at w lo b s) after = refl
no_list (Async at cs s) after = no_list_in_start at cs (stmt s after)
no_list (Finish at (Block close (More (Declare binding.Hidden h ty r) (More s (More (Drop g v) Done))))) after = refl
no_list (Finish at s) after = refl
no_list (Call w at es) after = refl
no_list (Resume w v) after = refl
no_list (Drop w v) after = refl
no_list (AdvanceAll at v) after = refl
no_list (Print at v e) after = refl

pub unlisted : Statements → List Statement
unlisted Done = []
unlisted (More s ss) = s ∷ unlisted ss

pub listed_unlisted : (ss : Statements) → listed (unlisted ss) ≡ ss
unfolding unlisted
listed_unlisted Done = refl
listed_unlisted (More s ss) = ap (More s) (listed_unlisted ss)

row_stmts : (ss : Statements) (after : List Mark) → row stmt (unlisted ss) after ≡ stmts ss after
unfolding unlisted
row_stmts Done after = refl
row_stmts (More s ss) after = ap (stmt s) (row_stmts ss after)

brace_settles : (s : Statement) (close : ℕ) (after : List Mark) → Settles s (CloseAt close ∷ after)
unfolding keyword_at
brace_settles s close after d = refl

row_settles : (s : Statement) (ss : Statements) (close : ℕ) (after : List Mark) → Settles s (row stmt (unlisted ss) (CloseAt close ∷ after))
unfolding unlisted
row_settles s Done close after d = brace_settles s close after d
row_settles s (More t ss) close after d = no_else t (row stmt (unlisted ss) (CloseAt close ∷ after))

ahead_of : (s : Statement) (after : List Mark) → ahead_at (stmt s after) ≡ Some (stmt s after)
unfolding ahead_at
ahead_of s after = ap (ahead_or (stmt s after)) (no_brace s after)

each_stmt : (d : ℕ) (o : List ℕ) (inner : List Mark → Read) → AgainAt d o inner → (ss : Statements) (close : ℕ) (after : List Mark) → AllFit d o ss
    → EachAgain ahead_at inner stmt (unlisted ss) (CloseAt close ∷ after)
unfolding unlisted
each_stmt d o inner again Done close after h = tt
each_stmt d o inner again (More s ss) close after h =
    let rest = row stmt (unlisted ss) (CloseAt close ∷ after) in
    ((stmt s rest, ahead_of s rest, again s rest h.0 (row_settles s ss close after)), each_stmt d o inner again ss close after h.1)

ahead_stops : (close : ℕ) (after : List Mark) → ahead_at (CloseAt close ∷ after) ≡ None
unfolding ahead_at close_at
ahead_stops close after = refl

pub stmts_again : (d : ℕ) (o : List ℕ) (inner : List Mark → Read) → AgainAt d o inner → Shortens ahead_at inner → (ss : Statements) (close : ℕ) (after : List Mark) → AllFit d o ss
    → stmts_at inner (stmts ss (CloseAt close ∷ after)) ≡ Some ((unlisted ss, close), after)
unfolding stmts_at close_at bind
stmts_again d o inner again short ss close after h =
    let end = CloseAt close ∷ after in
    let many = more_again ahead_at inner stmt short [] (unlisted ss) end (each_stmt d o inner again ss close after h) (ahead_stops close after) in
    rw (sym (row_stmts ss end), many) refl

-- ---- heads and what stands behind them

head_whole : (d : ℕ) (o : List ℕ) (s : Statement) (after : List Mark) → HoldsNone s → Fits (suc d) o s
    → stmt_head_at d o (stmt s after) ≡ whole (flat_at d (stmt s after))
unfolding stmt_head_at bind
head_whole d o Empty after f h = refl
head_whole d o (Declare binding.Val w ty r) after f h = refl
head_whole d o (Declare binding.Var w ty r) after f h = refl
head_whole d o (Declare binding.Hidden w ty r) after f h = absurd h
head_whole d o (Assign w e) after f h = refl
head_whole d o (Atomic w v at e) after f h = refl
head_whole d o (Call w at es) after f h = refl
head_whole d o (Resume w v) after f h = refl
head_whole d o (Drop w v) after f h = refl
head_whole d o (AdvanceAll at v) after f h = refl
head_whole d o (Print at v e) after f h = refl
head_whole d o _ after f h = absurd f

whole_again : (d : ℕ) (o : List ℕ) (s : Statement) (after : List Mark) → HoldsNone s → Fits (suc d) o s → stmt_head_at d o (stmt s after) ≡ Some (Whole s, after)
unfolding bind
whole_again d o s after f h = head_whole d o s after f h ∙ ap whole (flat_again d o s after f h)

-- a head, and then the rest of the statement
then_rest : (d : ℕ) (o : List ℕ) (ts us : List Mark) (h : Head) (x : Statement × List Mark) → stmt_head_at d o ts ≡ Some (h, us) → rest_at d (stmt_at d) o h us ≡ Some x
    → stmt_at (suc d) o ts ≡ Some x
unfolding stmt_at bind
then_rest d o ts us h x e r = rw e r

flat_stmt : (d : ℕ) (o : List ℕ) (s : Statement) (after : List Mark) → HoldsNone s → Fits (suc d) o s → stmt_at (suc d) o (stmt s after) ≡ Some (s, after)
unfolding rest_at
flat_stmt d o s after f h = then_rest d o (stmt s after) after (Whole s) (s, after) (whole_again d o s after f h) refl

condition_head : (d : ℕ) (o : List ℕ) (at : ℕ) (l : Expression) (c : Comparison) (r : Expression) (after : List Mark) → IsExpr d l → IsExpr d r
    → stmt_head_at d o (head (Condition at l c r) after) ≡ Some (Condition at l c r, after)
unfolding stmt_head_at bind
condition_head d o at l c r after fl fr = condition_again d at l c r after fl fr

range_head : (d : ℕ) (o : List ℕ) (at : ℕ) (w : Word) (lo : tree.Number) (b : Bound) (after : List Mark) → IsNumber lo → BoundFits d b
    → stmt_head_at d o (head (Range at w lo b) after) ≡ Some (Range at w lo b, after)
unfolding stmt_head_at bind
range_head d o at w lo b after fl fb = range_again d at w lo b after fl fb

started : (d : ℕ) (o : List ℕ) (at : ℕ) (w : Written) (ws : List Word) (after : List Mark) → WrittenFits o w ws
    → stmt_head_at d o (clocked_start at w ws after) ≡ Some (Start at (Some (record { written = w; names = ws })), after)
unfolding stmt_head_at start_at hiding_at bind
started d o at (written.Listed clocked paren) ws after h = rw (clocks_again clocked paren ws after h) refl
started d o at (written.Ahead clocked) ws after h =
    ap (λ (z : List Word). Some (Start at (Some (record { written = written.Ahead clocked; names = z })), after)) (sym h)

start_head : (d : ℕ) (o : List ℕ) (at : ℕ) (cs : Option Clocks) (after : List Mark) → ClocksFit o cs → list_open_at after ≡ None
    → stmt_head_at d o (head (Start at cs) after) ≡ Some (Start at cs, after)
unfolding stmt_head_at start_at bind
start_head d o at None after h none = rw (no_clocks after none) refl
start_head d o at (Some cs) after h none = started d o at cs.written cs.names after h

wait_head : (d : ℕ) (o : List ℕ) (at : ℕ) (after : List Mark) → stmt_head_at d o (head (Wait at) after) ≡ Some (Wait at, after)
unfolding stmt_head_at bind
wait_head d o at after = refl

hide_head : (d : ℕ) (o : List ℕ) (at finish : ℕ) (after : List Mark) → stmt_head_at d o (head (Hide at finish) after) ≡ Some (Hide at finish, after)
unfolding stmt_head_at hiding_at bind
hide_head d o at finish after = refl

brace_head : (d : ℕ) (o : List ℕ) (after : List Mark) → stmt_head_at d o (head Brace after) ≡ Some (Brace, after)
unfolding stmt_head_at bind
brace_head d o after = refl

block_rest : (d : ℕ) (o : List ℕ) (inner : List ℕ → List Mark → Read) → Again d inner → Shortens ahead_at (inner o) → (ss : Statements) (close : ℕ) (after : List Mark) → AllFit d o ss
    → rest_at d inner o Brace (stmts ss (CloseAt close ∷ after)) ≡ Some (Block close ss, after)
unfolding rest_at bind
block_rest d o inner again short ss close after h =
    rw (stmts_again d o (inner o) (again o) short ss close after h) (ap (λ (z : Statements). Some (Block close z, after)) (listed_unlisted ss))

if_rest : (d : ℕ) (o : List ℕ) (inner : List ℕ → List Mark → Read) → Again d inner → (at : ℕ) (l : Expression) (c : Comparison) (r : Expression) (s : Statement)
    (after : List Mark) → Fits d o s → keyword_at keyword.Else after ≡ None → rest_at d inner o (Condition at l c r) (stmt s after) ≡ Some (If at l c r s, after)
unfolding rest_at else_at bind
if_rest d o inner again at l c r s after h none = rw (again o s after h (λ _. none), none) refl

else_rest : (d : ℕ) (o : List ℕ) (inner : List ℕ → List Mark → Read) → Again d inner → (at : ℕ) (l : Expression) (c : Comparison) (r : Expression) (s t : Statement)
    (after : List Mark) → Fits d o s → Fits d o t → dangles s ≡ false → Settles t after
    → rest_at d inner o (Condition at l c r) (stmt s (Reserved keyword.Else ∷ stmt t after)) ≡ Some (IfElse at l c r s t, after)
unfolding rest_at else_at keyword_at bind
else_rest d o inner again at l c r s t after hs ht closed settles =
    rw (again o s (Reserved keyword.Else ∷ stmt t after) hs (λ q. absurd (apart (dangles s) closed q)), again o t after ht settles) refl

for_rest : (d : ℕ) (o : List ℕ) (inner : List ℕ → List Mark → Read) → Again d inner → (at : ℕ) (w : Word) (lo : tree.Number) (b : Bound) (s : Statement) (after : List Mark)
    → Fits d o s → Settles s after → rest_at d inner o (Range at w lo b) (stmt s after) ≡ Some (For at w lo b s, after)
unfolding rest_at bind
for_rest d o inner again at w lo b s after h settles = rw (again o s after h settles) refl

async_rest : (d : ℕ) (o : List ℕ) (inner : List ℕ → List Mark → Read) → Again d inner → (at : ℕ) (cs : Option Clocks) (s : Statement) (after : List Mark)
    → Fits d (inside cs o) s → Settles s after → rest_at d inner o (Start at cs) (stmt s after) ≡ Some (Async at cs s, after)
unfolding rest_at bind
async_rest d o inner again at cs s after h settles = rw (again (inside cs o) s after h settles) refl

finish_rest : (d : ℕ) (o : List ℕ) (inner : List ℕ → List Mark → Read) → Again d inner → (at : ℕ) (s : Statement) (after : List Mark) → Fits d [] s
    → Settles s after → rest_at d inner o (Wait at) (stmt s after) ≡ Some (Finish at s, after)
unfolding rest_at bind
finish_rest d o inner again at s after h settles = rw (again [] s after h settles) refl

hide_rest : (d : ℕ) (o : List ℕ) (inner : List ℕ → List Mark → Read) → Again d inner → (at finish : ℕ) (s : Statement) (after : List Mark)
    → Fits d (hidden_text (suc d)) s → Settles s after
    → rest_at d inner o (Hide at finish) (stmt s after) ≡ Some (clocked_finish finish (hidden_clock (suc d) at) s, after)
unfolding rest_at bind
hide_rest d o inner again at finish s after h settles = rw (again (hidden_text (suc d)) s after h settles) refl

pub stmt_again : (d : ℕ) → Again d (stmt_at d)
stmt_again zero o s rest h settles = absurd h
stmt_again (suc d) o (Block close ss) rest h settles =
    let body = stmts ss (CloseAt close ∷ rest) in
    then_rest d o (head Brace body) body Brace (Block close ss, rest) (brace_head d o body)
    (block_rest d o (stmt_at d) (stmt_again d) (stmt_shortens d o) ss close rest h)
stmt_again (suc d) o Empty rest h settles = flat_stmt d o Empty rest tt h
stmt_again (suc d) o (Declare b w ty r) rest h settles = flat_stmt d o (Declare b w ty r) rest tt h
stmt_again (suc d) o (Assign w e) rest h settles = flat_stmt d o (Assign w e) rest tt h
stmt_again (suc d) o (Atomic w v at e) rest h settles = flat_stmt d o (Atomic w v at e) rest tt h
stmt_again (suc d) o (If at l c r s) rest h settles =
    let ts = stmt s rest in
    then_rest d o (head (Condition at l c r) ts) ts (Condition at l c r) (If at l c r s, rest) (condition_head d o at l c r ts h.0 h.1)
    (if_rest d o (stmt_at d) (stmt_again d) at l c r s rest h.2 (settles refl))
stmt_again (suc d) o (IfElse at l c r s t) rest h settles =
    let ts = stmt s (Reserved keyword.Else ∷ stmt t rest) in
    then_rest d o (head (Condition at l c r) ts) ts (Condition at l c r) (IfElse at l c r s t, rest) (condition_head d o at l c r ts h.0 h.1)
    (else_rest d o (stmt_at d) (stmt_again d) at l c r s t rest h.2 h.3 h.4 settles)
stmt_again (suc d) o (For at w lo b s) rest h settles =
    let ts = stmt s rest in
    then_rest d o (head (Range at w lo b) ts) ts (Range at w lo b) (For at w lo b s, rest) (range_head d o at w lo b ts h.0 h.1)
    (for_rest d o (stmt_at d) (stmt_again d) at w lo b s rest h.2 settles)
stmt_again (suc d) o (Async at cs s) rest h settles =
    let ts = stmt s rest in
    then_rest d o (head (Start at cs) ts) ts (Start at cs) (Async at cs s, rest) (start_head d o at cs ts h.0 (no_list s rest))
    (async_rest d o (stmt_at d) (stmt_again d) at cs s rest h.1 settles)
stmt_again (suc d) o (Finish at (Block close (More (Declare binding.Hidden c ty r) (More s (More (Drop g v) Done))))) rest h settles =
    let ts = stmt s rest in
    then_rest d o (head (Hide c.at at) ts) ts (Hide c.at at) (clocked_finish at (hidden_clock (suc d) c.at) s, rest) (hide_head d o c.at at ts)
    (hide_rest d o (stmt_at d) (stmt_again d) c.at at s rest h.1 settles)
    ∙ ap (λ (z : Statement). Some (Finish at z, rest)) (sym h.0)
stmt_again (suc d) o (Finish at s) rest h settles =
    let ts = stmt s rest in
    then_rest d o (head (Wait at) ts) ts (Wait at) (Finish at s, rest) (wait_head d o at ts) (finish_rest d o (stmt_at d) (stmt_again d) at s rest h settles)
stmt_again (suc d) o (Call w at es) rest h settles = flat_stmt d o (Call w at es) rest tt h
stmt_again (suc d) o (Resume w v) rest h settles = flat_stmt d o (Resume w v) rest tt h
stmt_again (suc d) o (Drop w v) rest h settles = flat_stmt d o (Drop w v) rest tt h
stmt_again (suc d) o (AdvanceAll at v) rest h settles = flat_stmt d o (AdvanceAll at v) rest tt h
stmt_again (suc d) o (Print at v e) rest h settles = flat_stmt d o (Print at v e) rest tt h

pub statement_again : StatementAgain
statement_again d o s rest h settles = stmt_again d o s rest h settles
