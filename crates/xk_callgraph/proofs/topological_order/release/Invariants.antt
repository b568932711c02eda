use Rattle.std.proofs.Common.{◌≡◌, ℕ, List, ◌+◌, ◌<◌, slice_index, slice_get, Some}
use Rattle.xk_callgraph.specs.TopologicalOrder.{times, AreReady}
use Rattle.xk_callgraph.proofs.topological_order.release.Given as goal

abbrev pub invariant-loop-k : goal.invariant-loop-k
invariant-loop-k l = record {
  awaited : (j : ℕ) → slice_index l.awaited j + times l.k l.called j ≡ slice_index l.fn.awaited j;
  ready : (left : List ℕ) → AreReady left l.fn.awaited l.fn.ready → ((k j : ℕ) → slice_get l.called k ≡ Some j → 0 < slice_index left j)
      → AreReady left l.awaited l.ready;
}
