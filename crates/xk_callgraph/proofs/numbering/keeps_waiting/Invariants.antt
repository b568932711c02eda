use Rattle.std.proofs.Common.{◌≡◌, ℕ, ◌<◌, Some, slice_get, slice_index}
use Rattle.xk_callgraph.proofs.numbering.keeps_waiting.Given as goal

abbrev pub invariant-loop-k : goal.invariant-loop-k
invariant-loop-k l = (k j : ℕ) → k < l.k → slice_get l.called k ≡ Some j → 0 < slice_index l.numbers j
