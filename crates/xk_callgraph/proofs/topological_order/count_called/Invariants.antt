use Rattle.std.proofs.Common.{◌≡◌, ℕ, ◌+◌, slice_index}
use Rattle.xk_callgraph.specs.TopologicalOrder.{times}
use Rattle.xk_callgraph.proofs.topological_order.count_called.Given as goal

abbrev pub invariant-loop-k : goal.invariant-loop-k
invariant-loop-k l = (j : ℕ) → slice_index l.awaited j ≡ slice_index l.fn.awaited j + times l.k l.called j
