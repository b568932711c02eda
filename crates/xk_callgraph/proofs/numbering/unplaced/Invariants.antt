use Rattle.std.proofs.Common.{ℕ, ◌<◌, slice_index}
use Rattle.xk_callgraph.proofs.numbering.unplaced.Given as goal

abbrev pub invariant-loop-i : goal.invariant-loop-i
invariant-loop-i l = (k : ℕ) → k < l.i → 0 < slice_index l.numbers k
