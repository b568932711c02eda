-- The frames of an activity have few slots: the present one, and those that wait.
use Rattle.std.proofs.Common.{◌≡◌, arith, ℕ, ◌<◌, ◌^◌, List, [], ◌∷◌, length, Option, Some, slice_get, ap}
use Rattle.std.specs.Option.{option_map_or}
use Rattle.std.proofs.lemmas.Option.{slice_get-get_or}
use Rattle.xk_types.specs.declared.world.Status.{Status}
use Rattle.xk_types.specs.declared.rules.Kind.{Kind}
use Rattle.xk_types.specs.Code.{ModuleValue, UnitValue, IsWithinLimits}
use Rattle.xk_types.specs.World.{Frame, World}
use Rattle.xk_law_schedules.proofs.Invariant.{AreWaiting}
use Rattle.xk_law_schedules.proofs.ReachabilityLemmas.{reached_sound}
use Rattle.xk_activity.specs.Activities.{act_at, nobody}
use Rattle.xk_activity.proofs.FrameStackLemmas.{few_slots}
use Rattle.xk_core.specs.Core.{IsCore}
use Rattle.xk_digests.specs.Likeness.{AreFew}

few_in : (m : ModuleValue) → IsWithinLimits m → (f : Frame) (u : UnitValue) → slice_get m.units f.unit ≡ Some u → length f.slots ≡ u.slots
    → length f.slots < 2 ^ 16
few_in m limits f u found long =
    let few = few_slots m f.unit limits in
    let e = ap (λ (o : Option UnitValue). option_map_or (λ u. u.slots) o 0) found in omega arith

few_behind : (m : ModuleValue) → IsWithinLimits m → (look : ℕ → Kind) (st : Status) (clocks : ℕ) (g : Frame) (fs : List Frame)
    → AreWaiting m look st clocks g fs → AreFew fs
few_behind m limits look st clocks g [] h = tt
few_behind m limits look st clocks g (f ∷ fs) h =
    (few_in m limits f h.0.u h.0.found h.0.frame.slots, few_behind m limits look st clocks f fs h.1)

-- those of an activity in a world that is reached
pub all_few : (m : ModuleValue) (w : World) (a : ℕ) → IsCore m w → a < length w.activities
    → AreFew ((act_at w.activities a).frame ∷ (act_at w.activities a).callers)
all_few m w a core lt =
    let act = act_at w.activities a in
    let s = (reached_sound m core.limits core.accepted w core.reached).activities a act (slice_get-get_or w.activities a nobody lt) in
    (few_in m core.limits act.frame s.u s.unit s.frame.slots, few_behind m core.limits _ _ _ act.frame act.callers s.waiting)
