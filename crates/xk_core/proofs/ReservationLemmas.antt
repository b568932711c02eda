-- The room that a state has reserved stays enough, and there is some left where a clock is made.
use Rattle.std.proofs.Common.{◌≡◌, ℕ, ◌<◌, ◌≤◌, List, [], ◌∷◌, ◌++◌, length, Some, inl, inr, ◌⊎◌, refl, sym, ap, ◌∙◌, subst, arith, slice_get, slice_set, slice_index_or, length-set}
use Rattle.std.proofs.lemmas.Bool.{cases_eq}
use Rattle.std.proofs.lemmas.Option.{same_Some, slice_get_within, get_or_from_slice_get}
use Rattle.std.proofs.lemmas.List.{length_push}
use Rattle.xk_types.specs.declared.instr.Instr.TheVariants as instr
use Rattle.xk_types.specs.Code.{ModuleValue}
use Rattle.xk_types.specs.World.{Activity, World, base_of, base_unit}
use Rattle.xk_types.proofs.ListLemmas.{get_inside, get-set_same, get-set_other, get_push, get-push_other}
use Rattle.xk_law_schedules.proofs.ScopeLemmas.Invariant.{based}
use Rattle.xk_types.specs.Bound.{places_from}
use Rattle.xk_law_schedules.specs.ClockRoom.{HasRoomLeft, registrations, places_of}
use Rattle.xk_law_schedules.proofs.RoomLaw.{made_has_room}
use Rattle.xk_finishes.specs.Tree.{NodeValue}
use Rattle.xk_registrations.specs.Standings.{Rooms, HasRoomToMake}
use Rattle.xk_activity.specs.declared.frames.Next.{Next}
use Rattle.xk_activity.specs.declared.frames.Next.TheVariants as next
use Rattle.xk_activity.specs.StepAgreement.{frames_in}
use Rattle.xk_activity.specs.Activities.{ActivitiesValue, act_at, with_act_at, nobody, Takes, Runs}
use Rattle.xk_core.specs.Core.{next_instruction}
use Rattle.xk_core.specs.Reservation.{AreReserved}
use Rattle.xk_core.specs.FinishView.{with_node, with_finishes}
use Rattle.xk_core.proofs.FinishTreeLemmas.{IsHeld, runs}
use Rattle.xk_core.proofs.LocalRunLemmas.{StaysBy, local_stays, ran_stays}

-- ---- what is reserved

-- an activity that began with the same unit has the same places
reserved_set : (m : ModuleValue) (acts : List Activity) (r q : Rooms) (a : ℕ) (y : Activity) → AreReserved m acts r → q ≡ r
    → base_unit y ≡ base_unit (act_at acts a) → AreReserved m (slice_set acts a y) q
reserved_set m acts r q a y h same base = rw same (record {
  clocks = h.clocks;
  width = h.width ∙ sym (length-set acts a y);
  places = λ b z there. by b z there (cases_eq b a);
})
  where
    by : (b : ℕ) (z : Activity) → slice_get (slice_set acts a y) b ≡ Some z → (b ≡ a) ⊎ (b ≡ a → ⊥) → places_of m z ≤ slice_index_or r.places b 0
    by b z there (inl e) =
        let inside = slice_get_within (slice_set acts a y) b z there in
        let x = get_inside acts a (omega (arith, inside, length-set acts a y, e)) in
        let yz : y ≡ z = same_Some y z (sym (get-set_same acts a x.0 y x.1) ∙ ap (slice_get (slice_set acts a y)) (sym e) ∙ there) in
        let units : base_unit z ≡ base_unit x.0 = ap base_unit (sym yz) ∙ base ∙ ap base_unit (get_or_from_slice_get acts a x.0 nobody x.1) in
        subst (λ k. places_of m z ≤ slice_index_or r.places k 0) (sym e)
        (subst (λ k. places_from m k ≤ slice_index_or r.places a 0) (sym units) (h.places a x.0 x.1))
    by b z there (inr differs) = h.places b z (sym (get-set_other acts a b y differs) ∙ there)

-- one more, with places of its own
reserved_push : (m : ModuleValue) (acts : List Activity) (r q : Rooms) (n : ℕ) (y : Activity) → AreReserved m acts r → q.clocks ≡ r.clocks
    → q.places ≡ r.places ++ n ∷ [] → places_of m y ≤ n → AreReserved m (acts ++ y ∷ []) q
reserved_push m acts r q n y h clocks places fits = record {
  clocks = omega (arith, h.clocks, clocks);
  width = ap length places ∙ omega (arith, length_push r.places n, length_push acts y, h.width);
  places = λ b z there. subst (λ (l : List ℕ). places_of m z ≤ slice_index_or l b 0) (sym places) (by b z there (cases_eq b (length acts)));
}
  where
    by : (b : ℕ) (z : Activity) → slice_get (acts ++ y ∷ []) b ≡ Some z → (b ≡ length acts) ⊎ (b ≡ length acts → ⊥)
        → places_of m z ≤ slice_index_or (r.places ++ n ∷ []) b 0
    by b z there (inl e) =
        let yz : y ≡ z = same_Some y z (sym (get_push acts y) ∙ ap (slice_get (acts ++ y ∷ [])) (sym e) ∙ there) in
        let at : slice_get (r.places ++ n ∷ []) b ≡ Some n = ap (slice_get (r.places ++ n ∷ [])) (e ∙ sym h.width) ∙ get_push r.places n in
        let is : slice_index_or (r.places ++ n ∷ []) b 0 ≡ n = get_or_from_slice_get (r.places ++ n ∷ []) b n 0 at in
        subst (λ (x : Activity). places_of m x ≤ slice_index_or (r.places ++ n ∷ []) b 0) yz (omega (arith, fits, is))
    by b z there (inr differs) =
        let old = sym (get-push_other acts y b differs) ∙ there in
        let p = get_inside r.places b (omega (arith, slice_get_within acts b z old, h.width)) in
        let now = get_or_from_slice_get (r.places ++ n ∷ []) b p.0 0 (get-push_other r.places n b (λ e. differs (e ∙ h.width)) ∙ p.1) in
        let before = get_or_from_slice_get r.places b p.0 0 p.1 in
        omega (arith, now, before, h.places b z old)

-- where activity a goes on meanwhile
pub reserved_more : (m : ModuleValue) (acts news : List Activity) (r q : Rooms) (a n : ℕ) (x y : Activity) → AreReserved m acts r → base_unit x ≡ base_unit (act_at acts a)
    → news ≡ slice_set acts a x ++ y ∷ [] → q.clocks ≡ r.clocks → q.places ≡ r.places ++ n ∷ [] → places_of m y ≤ n → AreReserved m news q
reserved_more m acts news r q a n x y h base is clocks places fits =
    subst (λ l. AreReserved m l q) (sym is) (reserved_push m (slice_set acts a x) r q n y (reserved_set m acts r r a x h refl base) clocks places fits)

-- ---- the unit that an activity began with

pub onward_base : (x y : Activity) → y.frame.unit ≡ x.frame.unit → y.callers ≡ x.callers → base_unit y ≡ base_unit x
onward_base x y unit callers = ap (base_of y.frame) callers ∙ based x.frame y.frame x.callers unit

-- an activity of a state changed, which began with the same unit
pub kept_by : (v new : ActivitiesValue) (n k : ℕ) (r q : Rooms) (a : ℕ) (y : Activity) → (n ≡ length v.list) × AreReserved v.module_run v.list r → new ≡ with_act_at v a y → k ≡ n
    → q ≡ r → base_unit y ≡ base_unit (act_at v.list a) → (k ≡ length new.list) × AreReserved new.module_run new.list q
kept_by v new n k r q a y h is width same base = rw is (
  width ∙ h.0 ∙ sym (length-set v.list a y),
  reserved_set v.module_run v.list r q a y h.1 same base,
)

-- and whose frame is of the same unit
pub kept_on : (v new : ActivitiesValue) (n : ℕ) (r : Rooms) (a : ℕ) (y : Activity) → (n ≡ length v.list) × AreReserved v.module_run v.list r → new ≡ with_act_at v a y
    → y.frame.unit ≡ (act_at v.list a).frame.unit → y.callers ≡ (act_at v.list a).callers → (n ≡ length new.list) × AreReserved new.module_run new.list r
kept_on v new n r a y h is unit callers = kept_by v new n n r r a y h is refl refl (onward_base (act_at v.list a) y unit callers)

pub runs_base : (m : ModuleValue) (x y : Activity) (max n : ℕ) → Runs m x max n y → base_unit y ≡ base_unit x
runs_base m x y max n r = ap base_unit r.is ∙ (subst (StaysBy (frames_in m x)) r.ran (ran_stays (frames_in m x) n)).base

pub takes_base : (m : ModuleValue) (x y : Activity) (n : Next) → Takes m x n y → base_unit y ≡ base_unit x
takes_base m x y next.Stepped t = ap base_unit t.2 ∙ (subst (StaysBy (frames_in m x)) t.1 (local_stays (frames_in m x))).base
takes_base m x y next.Visible t = ap base_unit t.1

-- ---- where a clock is made

-- room is left, also without finishes
pub make_left : (m : ModuleValue) (ns : List NodeValue) (w : World) (a : ℕ) (h : IsHeld m ns w) (d : ℕ) → next_instruction m (with_finishes ns w) a ≡ Some (instr.Make d)
    → HasRoomLeft m w a
make_left m ns w a h d next =
    let r = runs m ns w a h (instr.Make d) next in
    let left = made_has_room m (with_finishes ns w) h.core.limits h.core.accepted h.core.reached a
    (record { act = with_node r.n r.x; there = r.both; running = r.running; slot = d; makes = r.at }) in
    record {
      clocks = left.clocks;
      places = λ act there.
          subst (λ (x : Activity). registrations w.clocks a < places_of m x) (same_Some r.x act (sym r.found ∙ there)) (left.places (with_node r.n r.x) r.both);
    }

-- and what is reserved has it
pub room_to_make : (m : ModuleValue) (w : World) (a : ℕ) (r : Rooms) → a < length w.activities → AreReserved m w.activities r → HasRoomLeft m w a → HasRoomToMake r w.clocks a
room_to_make m w a r lt h left =
    let x = get_inside w.activities a lt in
    record {
      clock = omega (arith, left.clocks, h.clocks);
      place = omega (arith, left.places x.0 x.1, h.places a x.0 x.1);
    }
