use Rattle.std.proofs.Common.{◌≡◌, ◌<◌, length, slice_index}
use Rattle.xk_callgraph.specs.CallGraph.{zeros, adjacency}
use Rattle.xk_callgraph.proofs.NumberingLemmas.{Lead}
use Rattle.xk_callgraph.proofs.numbering.walk_round.Given as goal

abbrev pub invariant-loop-seen : goal.invariant-loop-seen
invariant-loop-seen l = record {
  within : l.here < length l.numbers;
  none : slice_index l.numbers l.here ≡ 0;
  new : slice_index l.seen l.here ≡ 0;
  lead : Lead (adjacency l.calls) l.seen l.here;
}

abbrev pub decreases-loop-seen : goal.decreases-loop-seen
decreases-loop-seen l = zeros l.seen
