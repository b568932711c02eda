-- the clocks that are left decide
use Rattle.std.proofs.Common.{◌≡◌, eqb, length}
use Rattle.std.specs.List.{list_any}
use Rattle.xk_shape.specs.Arguments.{clocks}
use Rattle.xk_shape.proofs.arguments.Arguments.has_clock.Given as goal

abbrev pub invariant-loop-clock : goal.invariant-loop-clock
invariant-loop-clock l = list_any (λ x. eqb x l.slot) (clocks l.self) ≡ list_any (λ x. eqb x l.slot) (clocks l.rest)

abbrev pub decreases-loop-clock : goal.decreases-loop-clock
decreases-loop-clock l = length (clocks l.rest)
