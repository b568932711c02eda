use Rattle.std.proofs.Common.{◌≡◌, ℕ, ◌<◌, ◌≤◌, length, slice_get, Some}
use Rattle.xk_readings.specs.declared.branches.Branch.{Branch}
use Rattle.xk_readings.specs.Branches.{IsAlong}
use Rattle.xk_readings.specs.Ways.{HasStanding, Standing}
use Rattle.xk_readings.proofs.branches.add_group.Given as goal

-- the ways of the branches from this place on were added, all of which print the same number
abbrev pub invariant-loop-at : goal.invariant-loop-at
invariant-loop-at l = record {
  within : l.at ≤ l.end;
  since : l.ways.since ≡ length l.fn.ways.all;
  room : l.ways.here.room ≡ l.fn.ways.here.room;
  many : length l.fn.ways.all ≤ length l.ways.all;
  kept : (k : ℕ) (s : Standing) → slice_get l.fn.ways.all k ≡ Some s → slice_get l.ways.all k ≡ Some s;
  each : (k : ℕ) (s : Standing) → length l.fn.ways.all ≤ k → slice_get l.ways.all k ≡ Some s
      → IsAlong l.branches l.fn.ways.all l.last.number s;
  same : (i : ℕ) (b : Branch) → l.at ≤ i → i < l.end → slice_get l.branches i ≡ Some b → b.number ≡ l.last.number;
  there : (i : ℕ) (b : Branch) → l.at ≤ i → i < l.end → slice_get l.branches i ≡ Some b
      → HasStanding l.ways.all (length l.fn.ways.all) b.edge.to;
}

abbrev pub decreases-loop-at : goal.decreases-loop-at
decreases-loop-at l = l.at
