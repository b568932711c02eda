use Rattle.std.proofs.Common.{◌≡◌, ◌⊎◌, ℕ, ◌<◌, slice_get, Some}
use Rattle.xk_readings.specs.declared.edge.Edge.{Edge}
use Rattle.xk_readings.specs.Automata.{IsTarget}
use Rattle.xk_readings.specs.NodeSets.{HasNode, KeepsNodes}
use Rattle.xk_readings.proofs.moves.add_targets.Given as goal

-- where the edges before this place lead is there
abbrev pub invariant-loop-edge : goal.invariant-loop-edge
invariant-loop-edge l = record {
  room : l.set.room ≡ l.fn.set.room;
  kept : KeepsNodes l.fn.set.nodes l.set.nodes;
  there : (j : ℕ) (e : Edge) → j < l.edge-index → slice_get l.edge-items j ≡ Some e → e.printed ≡ l.printed → HasNode l.set.nodes e.to;
  each : (k : ℕ) → HasNode l.set.nodes k → HasNode l.fn.set.nodes k ⊎ IsTarget l.graph l.node l.printed k;
}
