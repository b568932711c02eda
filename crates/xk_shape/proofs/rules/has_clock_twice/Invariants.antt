-- the clocks that are left decide
use Rattle.std.proofs.Common.{◌≡◌, length}
use Rattle.xk_types.specs.Shape.{has_twice}
use Rattle.xk_shape.specs.Arguments.{clocks}
use Rattle.xk_shape.proofs.rules.has_clock_twice.Given as goal

abbrev pub invariant-loop-slot : goal.invariant-loop-slot
invariant-loop-slot l = has_twice (clocks l.fn.arguments) ≡ has_twice (clocks l.arguments)

abbrev pub decreases-loop-slot : goal.decreases-loop-slot
decreases-loop-slot l = length (clocks l.arguments)
