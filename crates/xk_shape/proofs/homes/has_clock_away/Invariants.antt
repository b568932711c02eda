-- the clocks that are left decide
use Rattle.std.proofs.Common.{◌≡◌, length}
use Rattle.std.specs.List.{list_any}
use Rattle.xk_shape.specs.Arguments.{clocks}
use Rattle.xk_shape.specs.Tables.{is_at_home_elsewhere}
use Rattle.xk_shape.proofs.homes.has_clock_away.Given as goal

abbrev pub invariant-loop-slot : goal.invariant-loop-slot
invariant-loop-slot l = list_any (is_at_home_elsewhere l.u l.at) (clocks l.fn.arguments) ≡ list_any (is_at_home_elsewhere l.u l.at) (clocks l.arguments)

abbrev pub decreases-loop-slot : goal.decreases-loop-slot
decreases-loop-slot l = length (clocks l.arguments)
