use Rattle.std.proofs.Common.{vec_len}
use Rattle.xk_callgraph.specs.CallGraph.{IsNumbered, AtMost, adjacency}
use Rattle.xk_callgraph.proofs.numbering.place_in_order.Given as goal

abbrev pub invariant-loop-i : goal.invariant-loop-i
invariant-loop-i l = record { numbered : IsNumbered (adjacency l.calls) l.numbers; top : AtMost l.numbers (vec_len l.placed) }
