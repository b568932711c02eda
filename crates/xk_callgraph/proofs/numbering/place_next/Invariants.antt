use Rattle.std.proofs.Common.{◌≡◌, vec_len}
use Rattle.xk_callgraph.specs.CallGraph.{AtMost, AreStuck, adjacency}
use Rattle.xk_callgraph.proofs.numbering.place_next.Given as goal

abbrev pub invariant-loop-i : goal.invariant-loop-i
invariant-loop-i l = record {
  same : l.numbers ≡ l.fn.numbers;
  top : AtMost l.numbers (vec_len l.placed);
  stuck : AreStuck (adjacency l.calls) l.numbers l.awaited l.i;
}
