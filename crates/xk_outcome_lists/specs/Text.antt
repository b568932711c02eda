-- How outcomes are told: a line each, numbered from 1, and a last one that says whether they are all. This project's own.
use Rattle.std.specs.Prelude.{ℕ, ℤ, ◌+◌, Bool, true, false, List, [], ◌∷◌, ◌++◌, length, codes, decimal}
use Rattle.xk_io.specs.Row.{numbers_text}
use Rattle.xk_outcomes.specs.declared.listing.Outcome.{Outcome}

-- the line of outcome number k: `outcome 2 prints 10 21`
abbrev pub outcome_line : ℕ → List ℤ → List ℕ
outcome_line k numbers = codes "outcome " ++ (decimal k ++ (codes " prints" ++ (numbers_text numbers ++ codes "\n")))

-- the lines of these, the first of which has number k
abbrev pub outcome_lines : ℕ → List Outcome → List ℕ
outcome_lines k [] = []
outcome_lines k (x ∷ list) = outcome_line k x.numbers.items ++ outcome_lines (k + 1) list

-- whether they are all: `outcomes 6 complete`, `outcomes 4 and perhaps more`
abbrev pub completeness : Bool → List ℕ
completeness true = codes " complete\n"
completeness false = codes " and perhaps more\n"

abbrev pub outcomes_text : List Outcome → Bool → List ℕ
outcomes_text list complete = outcome_lines 1 list ++ (codes "outcomes " ++ (decimal (length list) ++ completeness complete))
