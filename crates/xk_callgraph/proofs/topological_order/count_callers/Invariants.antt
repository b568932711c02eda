use Rattle.std.proofs.Common.{◌≡◌, ◌≤◌, ◌*◌, ℕ, slice_index}
use Rattle.xk_callgraph.specs.CallGraph.{adjacency}
use Rattle.xk_callgraph.specs.TopologicalOrder.{pending}
use Rattle.xk_callgraph.proofs.topological_order.count_callers.Given as goal

abbrev pub invariant-loop-i : goal.invariant-loop-i
invariant-loop-i l = (j : ℕ) → (slice_index l.awaited j ≡ pending l.i (adjacency l.calls) l.left j) × (slice_index l.awaited j ≤ l.i * 18446744073709551616)
