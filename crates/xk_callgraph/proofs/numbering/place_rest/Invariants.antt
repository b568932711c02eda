use Rattle.std.proofs.Common.{vec_len}
use Rattle.xk_callgraph.specs.CallGraph.{IsNumbered, AtMost, zeros, adjacency}
use Rattle.xk_callgraph.proofs.numbering.place_rest.Given as goal

abbrev pub invariant-loop : goal.invariant-loop
invariant-loop l = record {
  numbered : IsNumbered (adjacency l.calls) l.numbers;
  top : AtMost l.numbers (vec_len l.placed);
}

abbrev pub decreases-loop : goal.decreases-loop
decreases-loop l = zeros l.numbers
