-- those that are left have the same clocks
use Rattle.std.proofs.Common.{◌≡◌, length}
use Rattle.xk_shape.specs.Arguments.{clocks}
use Rattle.xk_shape.proofs.arguments.Arguments.take_clock.Given as goal

abbrev pub invariant-loop-param : goal.invariant-loop-param
invariant-loop-param l = clocks l.fn.self ≡ clocks l.self

abbrev pub decreases-loop-param : goal.decreases-loop-param
decreases-loop-param l = length l.self.slots
