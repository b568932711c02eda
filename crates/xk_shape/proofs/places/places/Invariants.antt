-- the places so far are known, how the next one lies, and what stands before it nests
use Rattle.std.proofs.Common.{◌≡◌, length}
use Rattle.xk_shape.specs.Nesting.{AreNestedBelow}
use Rattle.xk_shape.specs.Places.{LiesSo, AreFirstPlaces}
use Rattle.xk_shape.proofs.places.places.Given as goal

abbrev pub invariant-loop-at : goal.invariant-loop-at
invariant-loop-at l = (length l.found.items ≡ l.at) × AreFirstPlaces l.u l.found.items × LiesSo l.u l.at l.here × AreNestedBelow l.u l.at
