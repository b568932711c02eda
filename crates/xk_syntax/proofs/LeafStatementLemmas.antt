-- A statement that holds none is read again from its spelling.
use Rattle.std.proofs.Common.{◌≡◌, ℕ, suc, List, [], ◌∷◌, ◌++◌, Option, Some, None, codes, refl, ap, ◌∙◌}
use Rattle.std.specs.List.{AllByRecursion}
use Rattle.xk_types.specs.declared.unit.ParamKind.{ParamKind}
use Rattle.xk_types.specs.declared.unit.ParamKind.TheVariants as kind
use Rattle.xk_lexer.specs.declared.token.Sign.TheVariants as sign
use Rattle.xk_tree.specs.declared.tree.Operator.TheVariants as operator
use Rattle.xk_tree.specs.declared.tree.Binding.{Binding}
use Rattle.xk_tree.specs.declared.tree.Binding.TheVariants as binding
use Rattle.xk_tree.specs.declared.tree.TypeName.{TypeName}
use Rattle.xk_tree.specs.declared.tree.Verb.{Verb}
use Rattle.xk_tree.specs.Tree.{Word, Expression, Literal, Named, Paren, Negation, Binary, Source, Make, Value, Statement, Empty, Declare, Assign, Atomic, Call, Resume, Drop, AdvanceAll, Print}
use Rattle.xk_exprs.specs.Marks.{Mark, Name, Number, Operator, Open, CloseAt, Symbol, Reserved, AsyncAt, FinishAt, ClockedAt, ClockAt, LongAt, Unfit}
use Rattle.xk_exprs.specs.Spelling.{spell, minus_marks}
use Rattle.xk_exprs.specs.ExprReaders.{whole_at}
use Rattle.xk_exprs.proofs.CompletenessLemmas.{expression_again, term_again}
use Rattle.xk_syntax.specs.Spelling.{word, expr, type_mark, type_name, type_part, verb, source, commas, stmt, param, IsExpr, IsTerm, SourceFits, Fits}
use Rattle.xk_syntax.specs.Readers.{bind, sign_at, open_at, plus_at, clock_at, word_at, this_word_at, type_at, verb_at, bare_verb_at, act_at, type_part_at, source_or, source_at, declare_at, atomic_at, advance_at, print_head_at, print_at, call_at, dotted_at, assign_at, named_at, flat_at, param_at}
use Rattle.xk_syntax.proofs.ListLoopLemmas.{expr_takes}
use Rattle.xk_syntax.proofs.ListSpellingLemmas.{ItemAgain, NotClosing, listed_again}

-- ---- how expressions begin

abbrev BeginsExpr : List Mark → Type 0
BeginsExpr (Name at text ∷ ts) = Unit {0}
BeginsExpr (Number at n ∷ ts) = Unit {0}
BeginsExpr (Operator at o ∷ ts) = Unit {0}
BeginsExpr (Open at ∷ ts) = Unit {0}
BeginsExpr _ = ⊥

begins-append : (xs ys : List Mark) → BeginsExpr xs → BeginsExpr (xs ++ ys)
begins-append [] ys b = absurd b
begins-append (Name at text ∷ xs) ys b = tt
begins-append (Number at n ∷ xs) ys b = tt
begins-append (Operator at o ∷ xs) ys b = tt
begins-append (Open at ∷ xs) ys b = tt
begins-append (Symbol s ∷ xs) ys b = absurd b
begins-append (Reserved k ∷ xs) ys b = absurd b
begins-append (AsyncAt at ∷ xs) ys b = absurd b
begins-append (FinishAt at ∷ xs) ys b = absurd b
begins-append (CloseAt at ∷ xs) ys b = absurd b
begins-append (ClockedAt at ∷ xs) ys b = absurd b
begins-append (ClockAt at ∷ xs) ys b = absurd b
begins-append (LongAt at ∷ xs) ys b = absurd b
begins-append (Unfit ∷ xs) ys b = absurd b

number_begins : (m : Option ℕ) (at n : ℕ) → BeginsExpr (minus_marks m ++ Number at n ∷ [])
number_begins None at n = tt
number_begins (Some minus) at n = tt

spell_begins : (e : Expression) → BeginsExpr (spell e)
spell_begins (Literal n) = number_begins n.minus n.at _
spell_begins (Named w) = tt
spell_begins (Paren at e) = tt
spell_begins (Negation at e) = tt
spell_begins (Binary o l at r) = begins-append (spell l) (Operator at o ∷ spell r) (spell_begins l)

no_clock : (ts : List Mark) → BeginsExpr ts → clock_at ts ≡ None
unfolding clock_at
no_clock [] b = refl
no_clock (ClockAt at ∷ ts) b = absurd b
no_clock (_ ∷ ts) b = refl

no_close : (ts : List Mark) → BeginsExpr ts → sign_at sign.RightParen ts ≡ None
unfolding sign_at
no_close [] b = refl
no_close (Name at text ∷ ts) b = refl
no_close (Number at n ∷ ts) b = refl
no_close (Operator at operator.Plus ∷ ts) b = refl
no_close (Operator at operator.Minus ∷ ts) b = refl
no_close (Operator at operator.Times ∷ ts) b = refl
no_close (Open at ∷ ts) b = refl
no_close (Symbol s ∷ ts) b = absurd b
no_close (Reserved k ∷ ts) b = absurd b
no_close (AsyncAt at ∷ ts) b = absurd b
no_close (FinishAt at ∷ ts) b = absurd b
no_close (CloseAt at ∷ ts) b = absurd b
no_close (ClockedAt at ∷ ts) b = absurd b
no_close (ClockAt at ∷ ts) b = absurd b
no_close (LongAt at ∷ ts) b = absurd b
no_close (Unfit ∷ ts) b = absurd b

expr_not_closing : NotClosing expr
expr_not_closing e after = no_close (spell e ++ after) (begins-append (spell e) after (spell_begins e))

-- ---- parts

pub expr_again : (d : ℕ) → ItemAgain (whole_at d) expr (IsExpr d)
expr_again d e s after fits = expression_again d (spell e) e (Symbol s ∷ after) fits tt

type_again : (ty : TypeName) (after : List Mark) → type_at (type_name ty after) ≡ Some (ty, after)
unfolding type_at
type_again ty after = by ty.kind
  where
    by : (k : ParamKind) → type_at (type_mark ty.at k ∷ after) ≡ Some (record { at = ty.at; kind = k }, after)
    by kind.Clock = refl
    by kind.Number = refl

type_part_again : (ty : Option TypeName) (after : List Mark) → type_part_at (type_part ty (Symbol sign.Assign ∷ after)) ≡ Some (ty, Symbol sign.Assign ∷ after)
unfolding type_part_at sign_at bind
type_part_again None after = refl
type_part_again (Some ty) after = rw (type_again ty (Symbol sign.Assign ∷ after)) refl

make_again : (v : Verb) (after : List Mark) → act_at (codes "make") (Symbol sign.Dot ∷ verb (codes "make") v (Symbol sign.RightParen ∷ after)) ≡ Some (v, after)
unfolding act_at bare_verb_at verb_at this_word_at word_at open_at sign_at bind
make_again v after = refl

value_read : (d : ℕ) (ts : List Mark) → clock_at ts ≡ None → source_at d ts ≡ source_or d ts None
unfolding source_at
value_read d ts h = ap (source_or d ts) h

value_again : (d : ℕ) (e : Expression) (ts us : List Mark) → whole_at d ts ≡ Some (e, us) → source_or d ts None ≡ Some (Value e, us)
unfolding bind
value_again d e ts us h = rw h refl

source_again : (d : ℕ) (r : Source) (after : List Mark) → SourceFits d r → source_at d (source r (Symbol sign.Semicolon ∷ after)) ≡ Some (r, Symbol sign.Semicolon ∷ after)
unfolding source_at clock_at bind
source_again d (Make at v) after h = rw (make_again v (Symbol sign.Semicolon ∷ after)) refl
source_again d (Value e) after h =
    let ts = expr e (Symbol sign.Semicolon ∷ after) in
    value_read d ts (no_clock ts (begins-append (spell e) (Symbol sign.Semicolon ∷ after) (spell_begins e)))
    ∙ value_again d e ts (Symbol sign.Semicolon ∷ after) (expr_again d e sign.Semicolon after h)

-- ---- statements

declare_again : (d : ℕ) (b : Binding) (w : Word) (ty : Option TypeName) (r : Source) (after : List Mark) → SourceFits d r
    → declare_at d b (word w (type_part ty (Symbol sign.Assign ∷ source r (Symbol sign.Semicolon ∷ after)))) ≡ Some (Declare b w ty r, after)
unfolding declare_at word_at sign_at bind
declare_again d b w ty r after h = rw (type_part_again ty (source r (Symbol sign.Semicolon ∷ after)), source_again d r after h) refl

atomic_again : (d : ℕ) (w v : Word) (at : ℕ) (e : Expression) (after : List Mark) → IsTerm d e
    → atomic_at d (word w (Symbol sign.Assign ∷ word v (Operator at operator.Plus ∷ expr e (Symbol sign.Semicolon ∷ after)))) ≡ Some (Atomic w v at e, after)
unfolding atomic_at word_at sign_at plus_at bind
atomic_again d w v at e after h = rw (term_again d (spell e) e (Symbol sign.Semicolon ∷ after) h tt) refl

advance_again : (at : ℕ) (v : Verb) (after : List Mark) → advance_at at (Symbol sign.Dot ∷ verb (codes "advanceAll") v
    (Symbol sign.RightParen ∷ Symbol sign.Semicolon ∷ after)) ≡ Some (AdvanceAll at v, after)
unfolding advance_at act_at bare_verb_at verb_at this_word_at word_at open_at sign_at bind
advance_again at v after = refl

print_again : (d at : ℕ) (v : Verb) (e : Expression) (after : List Mark) → IsExpr d e
    → print_at d (Symbol sign.Dot ∷ Name at (codes "OUT") ∷ Symbol sign.Dot ∷ verb (codes "println") v (expr e (Symbol sign.RightParen ∷ Symbol sign.Semicolon ∷ after)))
    ≡ Some (Print at v e, after)
unfolding print_at print_head_at verb_at this_word_at word_at open_at sign_at bind
print_again d at v e after h = rw (expr_again d e sign.RightParen (Symbol sign.Semicolon ∷ after) h) refl

assign_again : (d : ℕ) (w : Word) (e : Expression) (after : List Mark) → IsExpr d e
    → named_at d w (Symbol sign.Assign ∷ expr e (Symbol sign.Semicolon ∷ after)) ≡ Some (Assign w e, after)
unfolding named_at assign_at open_at sign_at bind
assign_again d w e after h = rw (expr_again d e sign.Semicolon after h) refl

call_again : (d : ℕ) (w : Word) (at : ℕ) (es : List Expression) (after : List Mark) → AllByRecursion (IsExpr d) es
    → named_at d w (Open at ∷ commas expr es (Symbol sign.RightParen ∷ Symbol sign.Semicolon ∷ after)) ≡ Some (Call w at es, after)
unfolding named_at call_at open_at sign_at bind
call_again d w at es after h = rw (listed_again (whole_at d) expr (IsExpr d) (expr_takes d) (expr_again d) expr_not_closing es (Symbol sign.Semicolon ∷ after) h) refl

resume_again : (d : ℕ) (w : Word) (v : Verb) (after : List Mark) → named_at d w (Symbol sign.Dot ∷ verb (codes "resume") v
    (Symbol sign.RightParen ∷ Symbol sign.Semicolon ∷ after)) ≡ Some (Resume w v, after)
unfolding named_at dotted_at bare_verb_at verb_at this_word_at word_at open_at sign_at bind
resume_again d w v after = refl

drop_again : (d : ℕ) (w : Word) (v : Verb) (after : List Mark) → named_at d w (Symbol sign.Dot ∷ verb (codes "drop") v
    (Symbol sign.RightParen ∷ Symbol sign.Semicolon ∷ after)) ≡ Some (Drop w v, after)
unfolding named_at dotted_at bare_verb_at verb_at this_word_at word_at open_at sign_at bind
drop_again d w v after = refl

-- it holds no statement
abbrev pub HoldsNone : Statement → Type 0
HoldsNone Empty = Unit {0}
HoldsNone (Declare b w ty r) = Unit {0}
HoldsNone (Assign w e) = Unit {0}
HoldsNone (Atomic w v at e) = Unit {0}
HoldsNone (Call w at es) = Unit {0}
HoldsNone (Resume w v) = Unit {0}
HoldsNone (Drop w v) = Unit {0}
HoldsNone (AdvanceAll at v) = Unit {0}
HoldsNone (Print at v e) = Unit {0}
HoldsNone _ = ⊥

pub flat_again : (d : ℕ) (o : List ℕ) (s : Statement) (after : List Mark) → HoldsNone s → Fits (suc d) o s → flat_at d (stmt s after) ≡ Some (s, after)
unfolding flat_at bind
flat_again d o Empty after f h = refl
flat_again d o (Declare binding.Val w ty r) after f h = declare_again d binding.Val w ty r after h
flat_again d o (Declare binding.Var w ty r) after f h = declare_again d binding.Var w ty r after h
flat_again d o (Declare binding.Hidden w ty r) after f h = absurd h
flat_again d o (Assign w e) after f h = assign_again d w e after h
flat_again d o (Atomic w v at e) after f h = atomic_again d w v at e after h
flat_again d o (Call w at es) after f h = call_again d w at es after h
flat_again d o (Resume w v) after f h = resume_again d w v after
flat_again d o (Drop w v) after f h = drop_again d w v after
flat_again d o (AdvanceAll at v) after f h = advance_again at v after
flat_again d o (Print at v e) after f h = print_again d at v e after h
flat_again d o _ after f h = absurd f

-- ---- parameters

pub param_again : ItemAgain param_at param (λ p. Unit {0})
unfolding param_at word_at sign_at bind
param_again p s after h = rw (type_again p.takes (Symbol s ∷ after)) refl

pub param_not_closing : NotClosing param
unfolding sign_at
param_not_closing p after = refl
