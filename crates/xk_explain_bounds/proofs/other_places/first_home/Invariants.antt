-- the clocks that are left decide
use Rattle.std.proofs.Common.{◌≡◌, length}
use Rattle.xk_shape.specs.Arguments.{clocks}
use Rattle.xk_explain_bounds.specs.OtherPlaces.{first_home}
use Rattle.xk_explain_bounds.proofs.other_places.first_home.Given as goal

abbrev pub invariant-loop-slot : goal.invariant-loop-slot
invariant-loop-slot l = first_home l.unit l.u l.block (clocks l.fn.arguments) ≡ first_home l.unit l.u l.block (clocks l.arguments)

abbrev pub decreases-loop-slot : goal.decreases-loop-slot
decreases-loop-slot l = length (clocks l.arguments)
