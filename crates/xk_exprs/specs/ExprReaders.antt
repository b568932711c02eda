-- Reading numbers and expressions. A reader of a part is told how many operators are left, and tells how many are left behind it.
-- The grammar is this project's own, in the manner of X10's expressions.
use Rattle.std.specs.Prelude.{ℕ, zero, suc, ◌-◌, ◌^◌, ◌==◌, nat_lt, nat_le, ℤ, pos, neg_ℤ, List, [], ◌∷◌, Option, Some, None, if◌then◌else◌}
use Rattle.xk_lexer.specs.declared.token.Sign.TheVariants as sign
use Rattle.xk_tree.specs.declared.tree.Operator.{Operator as Op}
use Rattle.xk_tree.specs.declared.tree.Operator.TheVariants as operator
use Rattle.xk_tree.specs.declared.tree.Number as number
use Rattle.xk_tree.specs.Tree.{Expression, Literal, Named, Paren, Negation, Binary}
use Rattle.xk_exprs.specs.Marks.{Mark, Name, Number, Operator, Open, Symbol}
use Rattle.xk_exprs.specs.ReaderCombinators.{◌>>=◌, Turn, Fails, Stops, Goes, loop}
use Rattle.xk_exprs.specs.Spelling.{binds}

-- an expression with the operators left, and the tokens behind it
abbrev pub Read : Type 0
Read = Option ((Expression × ℕ) × List Mark)

-- ---- tokens

abbrev pub close_by : Mark → List Mark → Option (List Mark)
close_by (Symbol sign.RightParen) ts = Some ts
close_by _ ts = None

-- a `)`
abbrev pub close_at : List Mark → Option (List Mark)
close_at [] = None
close_at (m ∷ ts) = close_by m ts

abbrev pub operator_by : ℕ → Mark → List Mark → Option ((ℕ × Op) × List Mark)
operator_by k (Operator at o) ts = if binds o == k then Some ((at, o), ts) else None
operator_by k _ ts = None

-- an operator that binds so
abbrev pub operator_at : ℕ → List Mark → Option ((ℕ × Op) × List Mark)
operator_at k [] = None
operator_at k (m ∷ ts) = operator_by k m ts

abbrev pub digits_by : Mark → List Mark → Option ((ℕ × ℕ) × List Mark)
digits_by (Number at n) ts = Some ((at, n), ts)
digits_by _ ts = None

-- digits
abbrev pub digits_at : List Mark → Option ((ℕ × ℕ) × List Mark)
digits_at [] = None
digits_at (m ∷ ts) = digits_by m ts

abbrev pub minus_by : Mark → List Mark → Option (ℕ × List Mark)
minus_by (Operator at operator.Minus) ts = Some (at, ts)
minus_by _ ts = None

-- a `-`
abbrev pub minus_at : List Mark → Option (ℕ × List Mark)
minus_at [] = None
minus_at (m ∷ ts) = minus_by m ts

-- ---- numbers

-- what digits are worth, or digits behind a `-`, within 64 bits
unfoldable pub value_of : Option ℕ → ℕ → Option ℤ
value_of None n = if nat_lt n (2 ^ 63) then Some (pos n) else None
value_of (Some at) n = if nat_le n (2 ^ 63) then Some (neg_ℤ (pos n)) else None

-- their number
abbrev pub literal : Option ℕ → ℕ → ℕ → Option number.Number
literal minus at n = do
  v ← value_of minus n
  Some (record { minus = minus; at = at; value = v })

abbrev pub number_of : Option ℕ → (ℕ × ℕ) × List Mark → Option (number.Number × List Mark)
number_of minus x = do
  n ← literal minus x.0.0 x.0.1
  Some (n, x.1)

-- a number from its digits on
abbrev pub number_from : Option ℕ → List Mark → Option (number.Number × List Mark)
number_from minus ts = do
  x ← digits_at ts
  number_of minus x

abbrev pub number_or : List Mark → Option (ℕ × List Mark) → Option (number.Number × List Mark)
number_or ts (Some x) = number_from (Some x.0) x.1
number_or ts None = number_from None ts

-- a number
unfoldable pub number_at : List Mark → Option (number.Number × List Mark)
number_at ts = number_or ts (minus_at ts)

-- ---- operands and operators in turn

abbrev pub joined : Expression → ℕ × Op → Read → Turn (Expression × ℕ)
joined l o None = Fails
joined l o (Some x) = Goes (Binary o.1 l o.0 x.0.0, x.0.1) x.1

abbrev pub operand : (ℕ → List Mark → Read) → Expression × ℕ → Option ((ℕ × Op) × List Mark) → Turn (Expression × ℕ)
operand item x None = Stops
operand item x (Some o) = if x.1 == 0 then Fails else joined x.0 o.0 (item (x.1 - 1) o.1)

-- another operator and its operand, if there is one
unfoldable pub another : ℕ → (ℕ → List Mark → Read) → Expression × ℕ → List Mark → Turn (Expression × ℕ)
another k item x ts = operand item x (operator_at k ts)

-- operands with operators between them that bind so
unfoldable pub chain_at : ℕ → (ℕ → List Mark → Read) → ℕ → List Mark → Read
chain_at k item ops ts = do
  first ← item ops ts
  loop (another k item) first.0 first.1

-- terms of such factors, and sums of such terms
unfoldable pub terms : (ℕ → List Mark → Read) → ℕ → List Mark → Read
terms item = chain_at 1 item

unfoldable pub sums : (ℕ → List Mark → Read) → ℕ → List Mark → Read
sums item = chain_at 2 (terms item)

-- ---- factors

abbrev pub in_parens : ℕ → Read → Read
in_parens at o = do
  inner ← o
  rest ← close_at inner.1
  Some ((Paren at inner.0.0, inner.0.1), rest)

abbrev pub negated : ℕ → Read → Read
negated at o = do
  inner ← o
  Some ((Negation at inner.0.0, inner.0.1), inner.1)

abbrev pub valued : ℕ → Option (number.Number × List Mark) → Read
valued ops o = do
  n ← o
  Some ((Literal n.0, ops), n.1)

abbrev pub minus_or : ℕ → ℕ → Option ((ℕ × ℕ) × List Mark) → Read → Read
minus_or at ops (Some x) other = valued ops (number_of (Some at) x)
minus_or at ops None other = other

-- a factor, where so many levels of parentheses and negations are left
unfoldable pub factor_at : ℕ → ℕ → List Mark → Read
factor_at d ops (Number at n ∷ ts) = valued ops (number_of None ((at, n), ts))
factor_at d ops (Name at text ∷ ts) = Some ((Named (record { at = at; text = text }), ops), ts)
factor_at (suc d) ops (Open at ∷ ts) = in_parens at (sums (factor_at d) ops ts)
factor_at d ops (Operator at operator.Plus ∷ ts) = None
factor_at d ops (Operator at operator.Times ∷ ts) = None
factor_at zero ops (Operator at operator.Minus ∷ ts) = minus_or at ops (digits_at ts) None
factor_at (suc d) ops (Operator at operator.Minus ∷ ts) = minus_or at ops (digits_at ts) (if ops == 0 then None else negated at (factor_at d (ops - 1) ts))
factor_at d ops _ = None

-- ---- whole expressions

abbrev pub without_count : Read → Option (Expression × List Mark)
without_count o = do
  x ← o
  Some (x.0.0, x.1)

-- an expression of at most 64 operators, where so many levels are left
unfoldable pub whole_at : ℕ → List Mark → Option (Expression × List Mark)
whole_at d ts = without_count (sums (factor_at d) 64 ts)

-- a term of at most 64 operators
unfoldable pub whole_term_at : ℕ → List Mark → Option (Expression × List Mark)
whole_term_at d ts = without_count (terms (factor_at d) 64 ts)
