-- How numbers and expressions are spelled, and within which limits. The numbers called `at` are offsets. Grammar and limits are this project's own.
use Rattle.std.specs.Prelude.{◌≡◌, ℕ, suc, ◌+◌, ◌^◌, ◌<◌, ◌≤◌, ℤ, pos, neg_ℤ, ◌≤ℤ◌, ◌<ℤ◌, unsigned_abs, List, [], ◌∷◌, ◌++◌, max, Option, Some, None, IsSome}
use Rattle.xk_lexer.specs.declared.token.Sign.TheVariants as sign
use Rattle.xk_tree.specs.declared.tree.Operator.{Operator as Op}
use Rattle.xk_tree.specs.declared.tree.Operator.TheVariants as operator
use Rattle.xk_tree.specs.declared.tree.Number as number
use Rattle.xk_tree.specs.Tree.{Expression, Literal, Named, Paren, Negation, Binary}
use Rattle.xk_exprs.specs.Marks.{Mark, Name, Number, Operator, Open, Symbol}

-- ---- numbers

abbrev pub minus_marks : Option ℕ → List Mark
minus_marks None = []
minus_marks (Some at) = Operator at operator.Minus ∷ []

-- a number's tokens: its digits, and before them its `-` if it has one
abbrev pub number_marks : number.Number → List Mark
number_marks n = minus_marks n.minus ++ Number n.at (unsigned_abs n.value) ∷ []

-- the values of 64 bits that digits have, or digits behind a `-`
abbrev pub IsValue : Option ℕ → ℤ → Type 0
IsValue None v = (pos 0 ≤ℤ v) × (v <ℤ pos (2 ^ 63))
IsValue (Some at) v = (neg_ℤ (pos (2 ^ 63)) ≤ℤ v) × (v ≤ℤ pos 0)

abbrev pub IsNumber : number.Number → Type 0
IsNumber n = IsValue n.minus n.value

-- ---- expressions

-- an expression's tokens
abbrev pub spell : Expression → List Mark
spell (Literal n) = number_marks n
spell (Named w) = Name w.at w.text ∷ []
spell (Paren at e) = Open at ∷ (spell e ++ Symbol sign.RightParen ∷ [])
spell (Negation at e) = Operator at operator.Minus ∷ spell e
spell (Binary o l at r) = spell l ++ Operator at o ∷ spell r

-- what an operator makes of its operands: a term is 1, a sum 2
abbrev pub binds : Op → ℕ
binds operator.Times = 1
binds operator.Plus = 2
binds operator.Minus = 2

-- the same of an expression; a factor is 0
abbrev pub level : Expression → ℕ
level (Binary o l at r) = binds o
level _ = 0

-- a `-` before digits belongs to the number, and is no negation
abbrev pub IsNegatable : Expression → Type 0
IsNegatable (Literal n) = IsSome n.minus
IsNegatable _ = Unit {0}

-- numbers have 64 bits, `*` binds tighter than `+` and `-`, and operators group to the left
abbrev pub IsGrouped : Expression → Type 0
IsGrouped (Literal n) = IsNumber n
IsGrouped (Named w) = Unit {0}
IsGrouped (Paren at e) = IsGrouped e
IsGrouped (Negation at e) = IsGrouped e × (level e ≡ 0) × IsNegatable e
IsGrouped (Binary o l at r) = IsGrouped l × IsGrouped r × (level l ≤ binds o) × (level r < binds o)

-- how many parentheses and negations stand in one another
abbrev pub depth : Expression → ℕ
depth (Paren at e) = suc (depth e)
depth (Negation at e) = suc (depth e)
depth (Binary o l at r) = max (depth l) (depth r)
depth _ = 0

-- how many operators it has, negations among them, and what stands in its parentheses too
abbrev pub operators : Expression → ℕ
operators (Paren at e) = operators e
operators (Negation at e) = suc (operators e)
operators (Binary o l at r) = suc (operators l + operators r)
operators _ = 0

-- these tokens spell this expression, where so many levels are left
pub record Spells (left : ℕ) (tokens : List Mark) (e : Expression) : Type 0 where
  pub spelled : tokens ≡ spell e
  pub grouped : IsGrouped e
  pub depth : depth e ≤ left
  pub operators : operators e ≤ 64

-- the same, and it is a term
pub record SpellsTerm (left : ℕ) (tokens : List Mark) (e : Expression) : Type 0 where
  pub spells : Spells left tokens e
  pub level : level e ≤ 1

-- ---- what may follow

-- no operator that binds so or tighter stands in front
abbrev pub Ends : ℕ → List Mark → Type 0
Ends k (Operator at o ∷ ts) = k < binds o
Ends k _ = Unit {0}
