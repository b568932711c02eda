use Rattle.std.proofs.Common.{◌≡◌, ℕ, ◌<◌, false, slice_get, Some}
use Rattle.xk_readings.proofs.moves.has_end.Given as goal

-- none of the nodes before this place may end a reading
abbrev pub invariant-loop-node : goal.invariant-loop-node
invariant-loop-node l = (j k : ℕ) → j < l.node-index → slice_get l.nodes j ≡ Some k → slice_get l.graph.ends k ≡ Some false
