use Rattle.std.proofs.Common.{◌≡◌, ℕ, ℤ, ◌<◌, ◌≤◌, length, slice_get, Some}
use Rattle.xk_readings.specs.declared.edge.Edge.{Edge}
use Rattle.xk_readings.specs.declared.branches.Branch.{Branch}
use Rattle.xk_readings.specs.Branches.{HasBranch, IsBranch}
use Rattle.xk_readings.proofs.branches.add_branches.Given as goal

-- the branches of the edges before this place
abbrev pub invariant-loop-edge : goal.invariant-loop-edge
invariant-loop-edge l = record {
  kept : (i : ℕ) (b : Branch) → slice_get l.fn.branches.items i ≡ Some b → slice_get l.branches.items i ≡ Some b;
  each : (i : ℕ) (b : Branch) → slice_get l.branches.items i ≡ Some b → length l.fn.branches.items ≤ i
      → IsBranch l.graph l.ways.all b × (b.before ≡ l.before);
  there : (j : ℕ) (e : Edge) (x : ℤ) → j < l.edge-index → slice_get l.edge-items j ≡ Some e → e.printed ≡ Some x
      → HasBranch l.branches.items e;
}
