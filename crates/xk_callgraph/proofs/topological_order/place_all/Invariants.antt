use Rattle.std.proofs.Common.{◌≡◌, ◌-◌, length, slice_get, Some}
use Rattle.xk_callgraph.specs.CallGraph.{adjacency, zeros}
use Rattle.xk_callgraph.specs.TopologicalOrder.{AreCounts, AreReady}
use Rattle.xk_callgraph.proofs.OrderLemmas.{IsBegun}
use Rattle.xk_callgraph.proofs.topological_order.place_all.Given as goal

abbrev pub invariant-loop-i : goal.invariant-loop-i
invariant-loop-i l = record {
  begun : IsBegun (adjacency l.calls) l.start l.fn.left l.left l.order.items;
  counts : AreCounts (adjacency l.calls) l.left l.awaited;
  ready : AreReady l.left l.awaited l.ready;
  first : slice_get l.order.items 0 ≡ Some l.start;
}

abbrev pub decreases-loop-i : goal.decreases-loop-i
decreases-loop-i l = length l.left - zeros l.left
