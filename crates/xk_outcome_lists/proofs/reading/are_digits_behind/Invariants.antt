use Rattle.std.proofs.Common.{◌≡◌, drop}
use Rattle.xk_outcome_lists.specs.Expected.{are_digits_behind}
use Rattle.xk_outcome_lists.proofs.reading.are_digits_behind.Given as goal

-- what is left, behind the last byte, is right where all is
abbrev pub invariant-loop-b : goal.invariant-loop-b
invariant-loop-b l = are_digits_behind l.last (drop l.b-index l.text) ≡ are_digits_behind l.before l.text
