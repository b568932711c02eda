-- What is read of a few tokens, by evaluation.
use Rattle.std.proofs.Common.{◌≡◌, ℕ, zero, suc, true, pos, neg_ℤ, List, [], ◌∷◌, ◌++◌, Some, None, refl}
use Rattle.std.specs.Prelude.{is_some}
use Rattle.xk_lexer.specs.declared.token.Sign.TheVariants as sign
use Rattle.xk_tree.specs.declared.tree.Operator.TheVariants as operator
use Rattle.xk_tree.specs.declared.tree.Number as number
use Rattle.xk_tree.specs.Tree.{Expression, Word, Literal, Named, Paren, Negation, Binary}
use Rattle.xk_exprs.specs.Marks.{Mark, Name, Number, Operator, Open, Symbol, Unfit}
use Rattle.xk_exprs.specs.ReaderCombinators.{turns, loop}
use Rattle.xk_exprs.specs.ExprReaders.{value_of, number_at, another, chain_at, terms, sums, factor_at, whole_at, whole_term_at}

-- ---- tokens and trees

-- `x`, at an offset
abbrev x_at : ℕ → Mark
x_at at = Name at (120 ∷ [])

abbrev x_tree : ℕ → Expression
x_tree at = let w : Word = record { at = at; text = 120 ∷ [] } in Named w

abbrev plus : ℕ → Mark
plus at = Operator at operator.Plus

abbrev minus : ℕ → Mark
minus at = Operator at operator.Minus

abbrev times : ℕ → Mark
times at = Operator at operator.Times

abbrev close : Mark
close = Symbol sign.RightParen

abbrev semicolon : List Mark
semicolon = Symbol sign.Semicolon ∷ []

abbrev plain : ℕ → ℕ → Expression
plain at n = let x : number.Number = record { minus = None; at = at; value = pos n } in Literal x

-- a number of which the `-` stands at the first offset, and the digits at the second
abbrev signed : ℕ → ℕ → ℕ → Expression
signed minus at n = let x : number.Number = record { minus = Some minus; at = at; value = neg_ℤ (pos n) } in Literal x

-- `x + x + ..`, so many `+`
abbrev many_plus : ℕ → List Mark
many_plus zero = x_at 0 ∷ []
many_plus (suc n) = x_at 0 ∷ plus 0 ∷ many_plus n

-- `(..((`, then what is given, then `)..))`
abbrev within : ℕ → List Mark → List Mark
within zero ts = ts
within (suc n) ts = Open 0 ∷ within n (ts ++ close ∷ [])

-- `- - .. x`
abbrev negated : ℕ → List Mark
negated zero = x_at 0 ∷ []
negated (suc n) = minus 0 ∷ negated n

-- ---- how operators bind

-- `x + x * x;`
row_times_binds : whole_at 64 (x_at 0 ∷ plus 2 ∷ x_at 4 ∷ times 6 ∷ x_at 8 ∷ semicolon)
    ≡ Some (Binary operator.Plus (x_tree 0) 2 (Binary operator.Times (x_tree 4) 6 (x_tree 8)), semicolon)
unfolding whole_at sums terms chain_at another loop turns factor_at value_of
row_times_binds = refl

-- `x - x - x`
row_left : whole_at 64 (x_at 0 ∷ minus 2 ∷ x_at 4 ∷ minus 6 ∷ x_at 8 ∷ [])
    ≡ Some (Binary operator.Minus (Binary operator.Minus (x_tree 0) 2 (x_tree 4)) 6 (x_tree 8), [])
unfolding whole_at sums terms chain_at another loop turns factor_at value_of
row_left = refl

-- `x - (x - x)`
row_parens : whole_at 64 (x_at 0 ∷ minus 2 ∷ Open 4 ∷ x_at 5 ∷ minus 7 ∷ x_at 9 ∷ close ∷ [])
    ≡ Some (Binary operator.Minus (x_tree 0) 2 (Paren 4 (Binary operator.Minus (x_tree 5) 7 (x_tree 9))), [])
unfolding whole_at sums terms chain_at another loop turns factor_at value_of
row_parens = refl

-- `x * x + x`, of which the term is `x * x`
row_term : whole_term_at 64 (x_at 0 ∷ times 2 ∷ x_at 4 ∷ plus 6 ∷ x_at 8 ∷ [])
    ≡ Some (Binary operator.Times (x_tree 0) 2 (x_tree 4), plus 6 ∷ x_at 8 ∷ [])
unfolding whole_term_at terms chain_at another loop turns factor_at value_of
row_term = refl

-- ---- a `-`

-- `- 5`
row_number : whole_at 64 (minus 0 ∷ Number 2 5 ∷ []) ≡ Some (signed 0 2 5, [])
unfolding whole_at sums terms chain_at another loop turns factor_at value_of
row_number = refl

-- `-x`
row_negation : whole_at 64 (minus 0 ∷ x_at 1 ∷ []) ≡ Some (Negation 0 (x_tree 1), [])
unfolding whole_at sums terms chain_at another loop turns factor_at value_of
row_negation = refl

-- `--5`
row_negated_number : whole_at 64 (minus 0 ∷ minus 1 ∷ Number 2 5 ∷ []) ≡ Some (Negation 0 (signed 1 2 5), [])
unfolding whole_at sums terms chain_at another loop turns factor_at value_of
row_negated_number = refl

-- `x - 5`
row_difference : whole_at 64 (x_at 0 ∷ minus 2 ∷ Number 4 5 ∷ []) ≡ Some (Binary operator.Minus (x_tree 0) 2 (plain 4 5), [])
unfolding whole_at sums terms chain_at another loop turns factor_at value_of
row_difference = refl

-- `-9223372036854775808`, `9223372036854775808` and `x - 9223372036854775808`
row_least : number_at (minus 0 ∷ Number 1 9223372036854775808 ∷ [])
    ≡ Some (record { minus = Some 0; at = 1; value = neg_ℤ (pos 9223372036854775808) }, [])
unfolding number_at value_of
row_least = refl

row_too_great : number_at (Number 0 9223372036854775808 ∷ []) ≡ None
unfolding number_at value_of
row_too_great = refl

row_difference_too_great : whole_at 64 (x_at 0 ∷ minus 2 ∷ Number 4 9223372036854775808 ∷ []) ≡ None
unfolding whole_at sums terms chain_at another loop turns factor_at value_of
row_difference_too_great = refl

-- ---- limits

row_64_operators : is_some (whole_at 64 (many_plus 64)) ≡ true
unfolding whole_at sums terms chain_at another loop turns factor_at value_of
row_64_operators = refl

row_65_operators : whole_at 64 (many_plus 65) ≡ None
unfolding whole_at sums terms chain_at another loop turns factor_at value_of
row_65_operators = refl

-- those in parentheses count too
row_65_in_parens : whole_at 64 (x_at 0 ∷ plus 0 ∷ Open 0 ∷ (many_plus 64 ++ close ∷ [])) ≡ None
unfolding whole_at sums terms chain_at another loop turns factor_at value_of
row_65_in_parens = refl

row_64_parens : is_some (whole_at 64 (within 64 (x_at 0 ∷ []))) ≡ true
unfolding whole_at sums terms chain_at another loop turns factor_at value_of
row_64_parens = refl

row_65_parens : whole_at 64 (within 65 (x_at 0 ∷ [])) ≡ None
unfolding whole_at sums terms chain_at another loop turns factor_at value_of
row_65_parens = refl

row_64_negations : is_some (whole_at 64 (negated 64)) ≡ true
unfolding whole_at sums terms chain_at another loop turns factor_at value_of
row_64_negations = refl

row_no_level : whole_at 0 (minus 0 ∷ x_at 1 ∷ []) ≡ None
unfolding whole_at sums terms chain_at another loop turns factor_at value_of
row_no_level = refl

row_no_level_number : whole_at 0 (minus 0 ∷ Number 1 5 ∷ []) ≡ Some (signed 0 1 5, [])
unfolding whole_at sums terms chain_at another loop turns factor_at value_of
row_no_level_number = refl

-- digits that are no number
row_unfit : whole_at 64 (x_at 0 ∷ plus 2 ∷ Unfit ∷ []) ≡ None
unfolding whole_at sums terms chain_at another loop turns factor_at value_of
row_unfit = refl
