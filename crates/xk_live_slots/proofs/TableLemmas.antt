-- A table that passes the test has all slots that are live.
use Rattle.std.proofs.Common.{◌≡◌, ℕ, ◌<◌, ◌≤◌, length, true, Some, arith, slice_get}
use Rattle.std.proofs.lemmas.Option.{option_and_then_some, slice_get_within}
use Rattle.xk_types.specs.Code.{ModuleValue, UnitValue}
use Rattle.xk_liveness.specs.Liveness.{IsLiveness, SlotTable}
use Rattle.xk_live_slots.specs.LiveSlots.{HasLiveIn}

pub all_units : (m : ModuleValue) (live : SlotTable) (n : ℕ) → length m.units ≤ n
    → ((u : ℕ) → u < n → (x : UnitValue) → slice_get m.units u ≡ Some x → HasLiveIn m live u x.code) → IsLiveness m live
all_units m live n le each f i s here h = option_and_then_some (λ (u : UnitValue). slice_get u.code f.place) (slice_get m.units f.unit) i
    here
    (λ x found got. (let w = slice_get_within m.units f.unit x found in
    each f.unit (omega (arith, w, le)) x found f.place i got f.slots s h))
