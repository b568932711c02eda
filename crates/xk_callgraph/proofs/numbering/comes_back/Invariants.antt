use Rattle.xk_callgraph.specs.CallGraph.{adjacency, AreReached}
use Rattle.xk_callgraph.proofs.numbering.comes_back.Given as goal

abbrev pub invariant-loop-at : goal.invariant-loop-at
invariant-loop-at l = AreReached (adjacency l.calls) l.from l.reached.items
