use Rattle.std.proofs.Common.{◌≡◌, length, vec_len}
use Rattle.xk_callgraph.proofs.strong_components.search.Given as goal

abbrev pub invariant-loop : goal.invariant-loop
invariant-loop l = vec_len l.walk.found.components ≡ length l.calls

abbrev pub invariant-loop-method : goal.invariant-loop-method
invariant-loop-method l = vec_len l.walk.found.components ≡ length l.calls
