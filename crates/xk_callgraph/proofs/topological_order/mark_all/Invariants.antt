use Rattle.std.proofs.Common.{◌<◌, ◌≤◌, ◌+◌, ◌-◌, vec_len, slice_index}
use Rattle.xk_callgraph.specs.CallGraph.{adjacency, zeros}
use Rattle.xk_callgraph.specs.TopologicalOrder.{IsSearch}
use Rattle.xk_callgraph.proofs.topological_order.mark_all.Given as goal

abbrev pub invariant-loop-done : goal.invariant-loop-done
invariant-loop-done l = record {
  search : IsSearch (adjacency l.calls) l.start l.seen l.reached.items l.done;
  first : 0 < slice_index l.seen l.start;
  done : l.done ≤ vec_len l.reached;
}

abbrev pub decreases-loop-done : goal.decreases-loop-done
decreases-loop-done l = zeros l.seen + (vec_len l.reached - l.done)
