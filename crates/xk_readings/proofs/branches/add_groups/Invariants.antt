use Rattle.std.proofs.Common.{◌≤◌, length}
use Rattle.xk_readings.specs.Branches.{AreGrouped}
use Rattle.xk_readings.proofs.branches.add_groups.Given as goal

-- groups were added for the branches from this place on
abbrev pub invariant-loop-at : goal.invariant-loop-at
invariant-loop-at l = record {
  within : l.at ≤ length l.branches;
  grouped : AreGrouped l.branches l.at l.fn.ways l.ways l.fn.groups.items l.groups.items;
}

abbrev pub decreases-loop-at : goal.decreases-loop-at
decreases-loop-at l = l.at
