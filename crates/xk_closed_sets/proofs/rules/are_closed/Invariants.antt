use Rattle.std.proofs.Common.{◌≡◌, ℕ, ◌<◌, Some, slice_get}
use Rattle.xk_types.specs.Code.{UnitValue}
use Rattle.xk_closed_sets.specs.Places.{IsClosedIn}
use Rattle.xk_closed_sets.proofs.rules.are_closed.Given as goal

-- the units so far have it all
abbrev pub invariant-loop-unit : goal.invariant-loop-unit
invariant-loop-unit l = (u : ℕ) → u < l.unit → (x : UnitValue) → slice_get l.units u ≡ Some x → IsClosedIn l.rows u x.code
