use Rattle.std.proofs.Common.{◌≡◌, ℕ, ◌<◌, Some, slice_get}
use Rattle.xk_types.specs.Code.{UnitValue}
use Rattle.xk_live_slots.specs.LiveSlots.{HasLiveIn, live_in}
use Rattle.xk_live_slots.proofs.rules.is_liveness.Given as goal

-- the units so far have it
abbrev pub invariant-loop-unit : goal.invariant-loop-unit
invariant-loop-unit l = (u : ℕ) → u < l.unit → (x : UnitValue) → slice_get l.program.units u ≡ Some x
    → HasLiveIn l.program (live_in l.rows) u x.code
