use Rattle.std.proofs.Common.{◌≡◌, ◌+◌, ◌-◌, ◌≤◌, ◌++◌, length}
use Rattle.std.specs.List.{filter_map}
use Rattle.xk_outcome_lists.specs.Expected.{lines_of, stray_from, told_in}
use Rattle.xk_outcome_lists.proofs.ExpectedLemmas.{left}
use Rattle.xk_outcome_lists.proofs.reading.read_expected.Given as goal

-- the lines so far may stand, and what they tell was kept
abbrev pub invariant-loop-from : goal.invariant-loop-from
invariant-loop-from l = record {
  few : l.number ≤ l.from + 1;
  within : l.from ≤ length l.text + 1;
  told : l.told ++ filter_map told_in (left l.from l.text) ≡ filter_map told_in (lines_of l.text);
  stray : stray_from l.number (left l.from l.text) ≡ stray_from 1 (lines_of l.text);
}

abbrev pub decreases-loop-from : goal.decreases-loop-from
decreases-loop-from l = length l.text + 1 - l.from
