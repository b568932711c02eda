use Rattle.std.proofs.Common.{◌≡◌, ℕ, ◌<◌, true, slice_get, Some}
use Rattle.xk_readings.specs.declared.edge.Edge.{Edge}
use Rattle.xk_readings.proofs.useful.useful_edges.Given as goal

-- the edges before this place
abbrev pub invariant-loop-edge : goal.invariant-loop-edge
invariant-loop-edge l = record {
  each : (i : ℕ) (e : Edge) → slice_get l.kept.items i ≡ Some e
      → ((j : ℕ) × (slice_get l.edges j ≡ Some e)) × (slice_get l.useful e.to ≡ Some true);
  all : (j : ℕ) (e : Edge) → j < l.edge-index → slice_get l.edges j ≡ Some e → slice_get l.useful e.to ≡ Some true
      → (i : ℕ) × (slice_get l.kept.items i ≡ Some e);
}
