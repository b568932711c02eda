-- How a count of outcomes is told: as the last line of their list. This project's own.
use Rattle.std.specs.Prelude.{ℕ, List, ◌++◌, codes, decimal}
use Rattle.xk_outcome_lists.specs.Text.{completeness}
use Rattle.xk_outcome_count.specs.declared.counting.Counted.{Counted}

-- `outcomes 6 complete`, `outcomes 6 and perhaps more`
abbrev pub count_line : Counted → List ℕ
count_line c = codes "outcomes " ++ (decimal c.count ++ completeness c.complete)
