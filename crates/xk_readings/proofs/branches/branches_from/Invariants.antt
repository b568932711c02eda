use Rattle.std.proofs.Common.{◌≡◌, ℕ, ◌<◌, ◌≤◌, slice_get, Some}
use Rattle.xk_readings.specs.declared.branches.Branch.{Branch}
use Rattle.xk_readings.specs.Branches.{AreAllOf, IsBranch}
use Rattle.xk_readings.specs.Ways.{at}
use Rattle.xk_readings.proofs.branches.branches_from.Given as goal

-- the branches of the ways before this one
abbrev pub invariant-loop-before : goal.invariant-loop-before
invariant-loop-before l = record {
  each : (i : ℕ) (b : Branch) → slice_get l.branches.items i ≡ Some b → IsBranch l.graph l.ways.all b × (l.first ≤ b.before);
  there : (k : ℕ) → l.first ≤ k → k < l.before → AreAllOf l.graph l.branches.items (at l.ways.all k);
}
