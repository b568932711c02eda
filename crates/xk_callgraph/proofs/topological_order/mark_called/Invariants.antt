use Rattle.std.proofs.Common.{◌≡◌, ℕ, ◌<◌, ◌≤◌, ◌+◌, vec_len, Some, slice_get, slice_index}
use Rattle.xk_callgraph.specs.CallGraph.{adjacency, zeros, Reaches}
use Rattle.xk_callgraph.specs.TopologicalOrder.{IsSearch}
use Rattle.xk_callgraph.proofs.topological_order.mark_called.Given as goal

abbrev pub invariant-loop-k : goal.invariant-loop-k
invariant-loop-k l = record {
  marked : (k j : ℕ) → k < l.k → slice_get l.called k ≡ Some j → 0 < slice_index l.seen j;
  more : (j : ℕ) → 0 < slice_index l.fn.seen j → 0 < slice_index l.seen j;
  same : (n m : ℕ) → slice_get l.fn.reached.items n ≡ Some m → slice_get l.reached.items n ≡ Some m;
  left : zeros l.seen + vec_len l.reached ≡ zeros l.fn.seen + vec_len l.fn.reached;
  longer : vec_len l.fn.reached ≤ vec_len l.reached;
  search : (start done : ℕ) → IsSearch (adjacency l.calls) start l.fn.seen l.fn.reached.items done → done ≤ vec_len l.fn.reached
      → Reaches (adjacency l.calls) start l.i → IsSearch (adjacency l.calls) start l.seen l.reached.items done;
}
