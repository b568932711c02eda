use Rattle.std.proofs.Common.{ℕ}
use Rattle.xk_callgraph.specs.CallGraph.{adjacency, AreReached, Reaches}
use Rattle.xk_callgraph.proofs.numbering.add_called.Given as goal

abbrev pub invariant-loop-k : goal.invariant-loop-k
invariant-loop-k l =
    (start : ℕ) → AreReached (adjacency l.calls) start l.fn.reached.items → Reaches (adjacency l.calls) start l.from → AreReached (adjacency l.calls) start l.reached.items
