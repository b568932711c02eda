use Rattle.std.proofs.Common.{◌≡◌, ℕ, ◌<◌, ◌≤◌, true, false, not, length, slice_get, Some}
use Rattle.std.specs.Prelude.{count_by}
use Rattle.xk_readings.specs.declared.edge.Edge.{Edge}
use Rattle.xk_readings.specs.Graphs.{graph}
use Rattle.xk_readings.specs.Useful.{AreReadable}
use Rattle.xk_readings.proofs.useful.mark_along.Given as goal

-- the edges from this place on were followed, or one more is marked
abbrev pub invariant-loop-at : goal.invariant-loop-at
invariant-loop-at l = record {
  within : l.at ≤ length l.edges;
  readable : AreReadable (graph l.edges l.ends) l.useful;
  kept : (k : ℕ) → slice_get l.fn.useful k ≡ Some true → slice_get l.useful k ≡ Some true;
  followed : l.more ≡ false → (j : ℕ) (e : Edge) → l.at ≤ j → slice_get l.edges j ≡ Some e → slice_get l.useful e.to ≡ Some true
      → slice_get l.useful e.from ≡ Some true;
  fewer : l.more ≡ true → count_by not l.useful < count_by not l.fn.useful;
  most : count_by not l.useful ≤ count_by not l.fn.useful;
}

abbrev pub decreases-loop-at : goal.decreases-loop-at
decreases-loop-at l = l.at
