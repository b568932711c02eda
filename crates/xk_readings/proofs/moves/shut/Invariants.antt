use Rattle.std.proofs.Common.{◌≡◌, ℕ, ℤ, ◌-◌, ◌<◌, List, None, slice_get, Some}
use Rattle.xk_readings.specs.Automata.{AreNodes, HasTargets, ReadsNoMore}
use Rattle.xk_readings.specs.Beginnings.{AreReadTo}
use Rattle.xk_readings.specs.NodeSets.{KeepsNodes}
use Rattle.xk_readings.proofs.moves.shut.Given as goal

-- the edges that print nothing were gone from the nodes before this place
abbrev pub invariant-loop-at : goal.invariant-loop-at
invariant-loop-at l = record {
  room : l.set.room ≡ l.fn.set.room;
  kept : KeepsNodes l.fn.set.nodes l.set.nodes;
  nodes : AreNodes l.graph l.set.nodes;
  reads : ReadsNoMore l.graph l.set.nodes l.fn.set.nodes;
  read_to : (numbers : List ℤ) → AreReadTo l.graph numbers l.fn.set.nodes → AreReadTo l.graph numbers l.set.nodes;
  shut : (i k : ℕ) → i < l.at → slice_get l.set.nodes i ≡ Some k → HasTargets l.graph k None l.set.nodes;
}

abbrev pub decreases-loop-at : goal.decreases-loop-at
decreases-loop-at l = l.set.room - l.at
