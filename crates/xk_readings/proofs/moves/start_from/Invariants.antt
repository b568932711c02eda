use Rattle.std.proofs.Common.{◌≡◌, ℕ, ◌<◌, slice_get, Some}
use Rattle.xk_readings.specs.Automata.{HasTargets, IsTarget}
use Rattle.xk_readings.specs.NodeSets.{HasNode}
use Rattle.xk_readings.proofs.moves.start_from.Given as goal

-- where edges lead from the nodes before this place is there
abbrev pub invariant-loop-node : goal.invariant-loop-node
invariant-loop-node l = record {
  room : l.set.room ≡ l.fn.set.room;
  there : (j k : ℕ) → j < l.node-index → slice_get l.nodes j ≡ Some k → HasTargets l.graph k (Some l.number) l.set.nodes;
  each : (k : ℕ) → HasNode l.set.nodes k → (from : ℕ) × HasNode l.nodes from × IsTarget l.graph from (Some l.number) k;
}
