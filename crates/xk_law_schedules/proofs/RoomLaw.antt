-- In a world that is reached there is room for clocks and registrations; and where an activity makes a clock, there is in the world behind.
use Rattle.std.proofs.Common.{◌≡◌, ℕ, ◌+◌, ◌<◌, ◌≤◌, [], ◌∷◌, ◌++◌, map, length, Some, None, Option, set, refl, ap, ◌∙◌, subst, arith, List, slice_get}
use Rattle.std.proofs.lemmas.Option.{slice_get_within}
use Rattle.std.proofs.lemmas.List.{length-append, length-map}
use Rattle.std.proofs.lemmas.List.Sums.{count_by-le-length}
use Rattle.xk_types.specs.declared.world.Value.{Value}
use Rattle.xk_types.specs.declared.world.Value.TheVariants as value
use Rattle.xk_types.specs.declared.world.Event.TheVariants as event
use Rattle.xk_types.specs.declared.rules.Kind.{Kind}
use Rattle.xk_types.specs.Code.{ModuleValue, IsWithinLimits}
use Rattle.xk_types.specs.World.{Finish, Activity, World, base_of, base_unit, standing_of}
use Rattle.xk_types.specs.Step.{is_registered, step, step_of, step_by, run_at, put_in, made, settled, settled_clock, new_clock, onward, with_slots}
use Rattle.xk_types.specs.Schedule.{IsReached}
use Rattle.xk_types.specs.Acceptance.{IsAccepted}
use Rattle.xk_types.specs.Bound.{made_of, given_to, places_from}
use Rattle.xk_types.specs.Shape.{HasShape}
use Rattle.xk_types.proofs.ListLemmas.{get-set_same, get_once}
use Rattle.xk_law_schedules.proofs.Invariant.{IsActivitySound, looks, is_held}
use Rattle.xk_law_schedules.proofs.SafetyLemmas.StepLemmas.{Keeps, step_keeps}
use Rattle.xk_law_schedules.proofs.ScopeLemmas.Invariant.{IsScopedIn, based}
use Rattle.xk_law_schedules.proofs.ReachabilityLemmas.{reached_step, reached_sound, reached_scoped, reached_room}
use Rattle.xk_law_schedules.specs.ClockRoom.{registrations, places_of, HasRoom, HasRoomLeft, IsAboutToMake}
use Rattle.xk_law_schedules.proofs.NamedClockCountLemmas.{named_by}
use Rattle.xk_law_schedules.proofs.FrameSlotLemmas.{kept, kept_named}
use Rattle.xk_law_schedules.proofs.StackLemmas.{stacked}
use Rattle.xk_law_schedules.proofs.RegistrationCountLemmas.{registered_by_kind, made_more}

-- an activity is registered on no more clocks than it was given, and makes in slots of its frames
in_places : (m : ModuleValue) → HasShape m → (scopes : List Finish) (w : World) (a : ℕ) (act : Activity) → IsActivitySound m (looks w.clocks a) (length w.clocks) w.steps act
    → IsScopedIn m scopes (looks w.clocks a) a act → registrations w.clocks a ≤ given_to m (base_unit act) + made_of m (base_unit act)
in_places m shape scopes w a act s scoped =
    let look : ℕ → Kind = looks w.clocks a in
    let all = kept m act.frame act.callers in
    let named = kept_named m a act.governed scopes look act.status (length w.clocks) act.frame act.callers s.waiting scoped.homes in
    let few = named_by all (λ k. is_held (look k)) (length w.clocks) (λ k held. named k held (s.held k held)) in
    omega (arith, few, registered_by_kind w.clocks a, stacked m shape look (length w.clocks) w.steps act s)

pub reached_has_room : (m : ModuleValue) (w : World) → IsWithinLimits m → IsAccepted m → IsReached m w → HasRoom m w
reached_has_room m w limits ok r = record {
  clocks = (reached_room m limits ok w r).clocks;
  places = λ a act there.
      (let s = (reached_sound m limits ok w r).activities a act there in
      let known = reached_scoped m limits ok w r in
      let some = in_places m ok.shape known.scopes w a act s (known.activities a act there) in
      let few = count_by-le-length (λ c. is_registered (standing_of c a)) w.clocks in
      let clocks = (reached_room m limits ok w r).clocks in
      omega (arith, some, few, clocks));
}

-- the world behind a `make`
behind : (m : ModuleValue) (w : World) (a : ℕ) (act next : Activity) → slice_get w.activities a ≡ Some act → next.frame.unit ≡ act.frame.unit → next.callers ≡ act.callers
    → (v : World) → v.activities ≡ set w.activities a next → (now : ℕ) → v.clocks ≡ map (settled_clock now) (w.clocks ++ new_clock (length w.activities) a ∷ [])
    → HasRoom m v → HasRoomLeft m w a
behind m w a act next there unit callers v acts now clocks room =
    let inside = slice_get_within w.activities a act there in
    let long : length v.clocks ≡ length w.clocks + 1 = ap length clocks ∙ length-map (w.clocks ++ new_clock (length w.activities) a ∷ []) (settled_clock now)
    ∙ length-append w.clocks (new_clock (length w.activities) a ∷ []) in
    let more : registrations v.clocks a ≡ registrations w.clocks a + 1 = ap (λ cs. registrations cs a) clocks ∙ made_more now a (length w.activities) w.clocks inside in
    let base : places_of m next ≡ places_of m act = ap (places_from m) (ap (base_of next.frame) callers ∙ based act.frame next.frame act.callers unit) in
    let most = room.places a next (ap (λ acts. slice_get acts a) acts ∙ get-set_same w.activities a act next there) in
    record {
      clocks = omega (arith, long, room.clocks);
      places = λ x at. subst (λ y. registrations w.clocks a < places_of m y) (get_once w.activities a act x there at) (omega (arith, more, base, most));
    }

pub made_has_room : (m : ModuleValue) (w : World) → IsWithinLimits m → IsAccepted m → IsReached m w → (a : ℕ) → IsAboutToMake m w a → HasRoomLeft m w a
made_has_room m w limits ok r a makes = by (slice_get act.frame.slots makes.slot) refl is (subst (Keeps m) is (step_keeps m ok w (reached_sound m limits ok w r) (reached_scoped m limits ok w r) a))
  where
    act : Activity
    act = makes.act

    is : step m w a ≡ put_in (slice_get act.frame.slots makes.slot) act makes.slot (value.Clock (length w.clocks)) (λ next. made w a next)
    is = ap (step_of m w a) makes.there ∙ ap (step_by m w a act) makes.running ∙ ap (run_at m w a act) makes.makes

    by : (o : Option Value) → slice_get act.frame.slots makes.slot ≡ o → step m w a ≡ put_in o act makes.slot (value.Clock (length w.clocks)) (λ next. made w a next)
        → Keeps m (put_in o act makes.slot (value.Clock (length w.clocks)) (λ next. made w a next)) → HasRoomLeft m w a
    by None e h keeps = absurd keeps
    by (Some old) e h keeps =
        let next : Activity = onward (with_slots act (set act.frame.slots makes.slot (value.Clock (length w.clocks)))) in
        let v : World = settled (record w { activities = set w.activities a next; clocks = w.clocks ++ new_clock (length w.activities) a ∷ [] }) in
        behind m w a act next makes.there refl refl v refl (w.steps + 1) refl (reached_has_room m v limits ok (reached_step m w v a event.Made r h))
