-- Two activities that make a clock each, in either order: the new clocks have changed places, and all else is the same.
use Rattle.std.proofs.Common.{◌≡◌, ℕ, suc, ◌+◌, ◌<◌, true, false, true≢false, List, [], ◌∷◌, ◌++◌, map, length, set, Some, None, Option, refl, sym, ap, ◌∙◌, arith, length-set}
use Rattle.std.specs.Prelude.{slice_get, option_and_then}
use Rattle.std.specs.Option.{option_map_or}
use Rattle.std.proofs.lemmas.List.{length-map, length_push, map-set}
use Rattle.std.proofs.lemmas.Option.{slice_get_within}
use Rattle.xk_types.specs.declared.instr.Instr.{Instr}
use Rattle.xk_types.specs.declared.instr.Instr.TheVariants as instr
use Rattle.xk_types.specs.declared.world.Value.{Value}
use Rattle.xk_types.specs.declared.world.Value.TheVariants as value
use Rattle.xk_types.specs.declared.world.Status.{Status}
use Rattle.xk_types.specs.declared.world.Status.TheVariants as status
use Rattle.xk_types.specs.declared.world.Event.{Event}
use Rattle.xk_types.specs.declared.world.Event.TheVariants as event
use Rattle.xk_types.specs.declared.rules.Kind.{Kind}
use Rattle.xk_types.specs.Acceptance.{IsAccepted}
use Rattle.xk_types.specs.Code.{UnitValue, ModuleValue, IsWithinLimits}
use Rattle.xk_types.specs.World.{Frame, Activity, Clock, World, instruction_at}
use Rattle.xk_types.specs.Step.{Stepped, settled_clock, slot_at, put_in, made, new_clock, onward, with_slots, run_at, step_by, step_of, step}
use Rattle.xk_types.specs.Schedule.{IsReached}
use Rattle.xk_types.proofs.ListLemmas.{Each, get-set_other}
use Rattle.xk_law_schedules.proofs.Invariant.{Names, IsSound, AreWaiting}
use Rattle.xk_law_schedules.proofs.StepFormLemmas.{IsNext}
use Rattle.xk_law_schedules.proofs.ReachabilityLemmas.{reached_sound}
use Rattle.xk_law_commute.specs.PlainWorlds.{plain_activity, plain_clock, plain}
use Rattle.xk_law_commute.specs.Squares.{makes, makes_next}
use Rattle.xk_law_commute.proofs.OneClockLemmas.{settle}
use Rattle.xk_law_commute.proofs.ListLemmas.{set_other}
use Rattle.xk_law_commute.proofs.PlainStepLaw.{same_plain}
use Rattle.xk_law_commute.proofs.ClockLemmas.{plainly, settled_standings, unready_still}
use Rattle.xk_law_commute.proofs.ChangeSquareLemmas.{same_step, found_of}
use Rattle.xk_law_commute.proofs.StartSquareLemmas.{made_world, maker, new_still}
use Rattle.xk_law_names.specs.ClockNames.{value_renamed, frame_renamed, activity_renamed, clocks_swapped, IsSquareOfMakes}
use Rattle.xk_law_names.specs.ActivityNames.{neighbours_swapped, renamed}
use Rattle.xk_law_names.proofs.ClockNameListLemmas.{renamed_first, renamed_second}
use Rattle.xk_law_names.proofs.ActivityNameListLemmas.{renamed_below}

-- ---- names below the two that are exchanged stay

slots_stay : (k : ℕ) (slots : List Value) → ((s c : ℕ) → Names slots s c → c < k) → map (value_renamed k) slots ≡ slots
slots_stay k [] h = refl
slots_stay k (v ∷ slots) h = λ i. by v (λ c e. h 0 c (ap Some e)) i ∷ slots_stay k slots (λ s c. h (suc s) c) i
  where
    by : (z : Value) → ((c : ℕ) → z ≡ value.Clock c → c < k) → value_renamed k z ≡ z
    by value.Unset g = refl
    by (value.Number n) g = refl
    by (value.Clock c) g = ap value.Clock (renamed_below k c (g c refl))

frame_stays : (k : ℕ) (f : Frame) → ((s c : ℕ) → Names f.slots s c → c < k) → frame_renamed k f ≡ f
frame_stays k f h = λ i. record f { slots = slots_stay k f.slots h i }

callers_stay : (m : ModuleValue) (look : ℕ → Kind) (st : Status) (k : ℕ) (g : Frame) (fs : List Frame) → AreWaiting m look st k g fs
    → map (frame_renamed k) fs ≡ fs
callers_stay m look st k g [] w = refl
callers_stay m look st k g (f ∷ fs) w = λ i. frame_stays k f w.0.frame.known i ∷ callers_stay m look st k f fs w.1 i

all_stay : (k : ℕ) (acts : List Activity) → Each (λ a act. activity_renamed k act ≡ act) acts → map (activity_renamed k) acts ≡ acts
all_stay k [] h = refl
all_stay k (x ∷ acts) h = λ i. h 0 x refl i ∷ all_stay k acts (λ a. h (suc a)) i

activities_stay : (m : ModuleValue) (w : World) → IsSound m w → Each (λ a act. activity_renamed (length w.clocks) act ≡ act) w.activities
activities_stay m w sound a act at =
    let s = sound.activities a act at in
    let frame : frame_renamed (length w.clocks) act.frame ≡ act.frame = frame_stays (length w.clocks) act.frame s.frame.known in
    let callers : map (frame_renamed (length w.clocks)) act.callers ≡ act.callers =
    callers_stay m _ act.status (length w.clocks) act.frame act.callers s.waiting in
    λ i. record act { frame = frame i; callers = callers i }

-- one that has made a clock
maker_renamed : (k : ℕ) (y : Activity) (d c e : ℕ) → activity_renamed k y ≡ y → renamed k c ≡ e
    → activity_renamed k (maker y d c) ≡ maker y d e
maker_renamed k y d c e stays place =
    ap (λ slots. onward (with_slots (activity_renamed k y) slots)) (map-set (value_renamed k) y.frame.slots d (value.Clock c))
    ∙ ap (λ (z : Activity). maker z d (renamed k c)) stays ∙ ap (maker y d) place

-- ---- clocks

still_once : (n : ℕ) (c : Clock) → settle c.standings ≡ c.standings → plain_clock (settled_clock n c) ≡ plain_clock c
still_once n c h = plainly (settled_clock n c) c (settled_standings n c ∙ h)

still_twice : (n o : ℕ) (c : Clock) → settle c.standings ≡ c.standings → plain_clock (settled_clock n (settled_clock o c)) ≡ plain_clock c
still_twice n o c h =
    plainly (settled_clock n (settled_clock o c)) c (settled_standings n (settled_clock o c) ∙ ap settle (settled_standings o c ∙ h) ∙ h)

-- two that are made one after the other, and in the other order
made_clocks : (n o : ℕ) (new old : Clock) (cs : List Clock) → settle new.standings ≡ new.standings → settle old.standings ≡ old.standings
    → Each (λ k (c : Clock). settle c.standings ≡ c.standings) cs
    → map plain_clock (neighbours_swapped (length cs) (map (settled_clock n) (map (settled_clock o) (cs ++ old ∷ []) ++ new ∷ [])))
    ≡ map plain_clock (map (settled_clock n) (map (settled_clock o) (cs ++ new ∷ []) ++ old ∷ []))
made_clocks n o new old [] p q still =
    λ i. (still_once n new p ∙ sym (still_twice n o new p)) i ∷ (still_twice n o old q ∙ sym (still_once n old q)) i ∷ []
made_clocks n o new old (c ∷ cs) p q still =
    ap (λ zs. plain_clock (settled_clock n (settled_clock o c)) ∷ zs) (made_clocks n o new old cs p q (λ k. still (suc k)))

-- ---- a step that makes a clock

made_step : (m : ModuleValue) (w : World) (a : ℕ) (act : Activity) (d : ℕ) (old : Value)
    → slice_get w.activities a ≡ Some act → IsNext m act (instr.Make d) → slot_at act d ≡ Some old
    → step m w a ≡ Stepped (made_world w a (maker act d (length w.clocks))) event.Made
made_step m w a act d old at next slot =
    ap (step_of m w a) at ∙ ap (step_by m w a act) next.runs ∙ ap (run_at m w a act) next.here
    ∙ ap (λ o. put_in o act d (value.Clock (length w.clocks)) (λ z. made w a z)) slot

-- what is known of one that can make a clock
record CanMake (m : ModuleValue) (w : World) (a : ℕ) : Type 0 where
  act : Activity
  at : slice_get w.activities a ≡ Some act
  d : ℕ
  next : IsNext m act (instr.Make d)
  old : Value
  slot : slot_at act d ≡ Some old

make_of : (o : Option Instr) → option_map_or makes o false ≡ true → (d : ℕ) × (o ≡ Some (instr.Make d))
make_of (Some (instr.Make d)) h = (d, refl)
make_of None h = absurd (true≢false (sym h))
make_of (Some _) h = absurd (true≢false (sym h))

can_make : (m : ModuleValue) (w : World) → IsSound m w → (a : ℕ) (u : World) (e : Event) → step m w a ≡ Stepped u e
    → makes_next m w a ≡ true → CanMake m w a
can_make m w sound a u e takes h = record { act = act; at = at; d = i.0; next = next; old = slot.0; slot = slot.1 }
  where
    act : Activity
    act = (found_of m w a u e takes).0

    at : slice_get w.activities a ≡ Some act
    at = (found_of m w a u e takes).1

    i : (d : ℕ) × (instruction_at m act.frame ≡ Some (instr.Make d))
    i = make_of (instruction_at m act.frame)
        (sym (ap (λ o. option_map_or makes (option_and_then (λ (x : Activity). instruction_at m x.frame) o) false) at) ∙ h)

    taken : step_by m w a act act.status ≡ Stepped u e
    taken = sym (ap (step_of m w a) at) ∙ takes

    running : (st : Status) → act.status ≡ st → step_by m w a act st ≡ Stepped u e → act.status ≡ status.Running
    running status.Running is g = is
    running status.Arrived is g =
        let s = sound.activities a act at in
        let there : instruction_at m act.frame ≡ Some instr.Advance =
        ap (option_and_then (λ (v : UnitValue). slice_get v.code act.frame.place)) s.unit ∙ s.advance is in
        absurd (grind (arith, there, i.1))
    running status.Ended is g = absurd (grind arith)

    next : IsNext m act (instr.Make i.0)
    next = record { runs = running act.status refl taken; here = i.1 }

    slot : (old : Value) × (slot_at act i.0 ≡ Some old)
    slot = by (slot_at act i.0) refl (sym (ap (step_by m w a act) next.runs ∙ ap (run_at m w a act) next.here) ∙ taken)
      where
        by : (o : Option Value) → slot_at act i.0 ≡ o → put_in o act i.0 (value.Clock (length w.clocks)) (λ z. made w a z) ≡ Stepped u e
            → (old : Value) × (slot_at act i.0 ≡ Some old)
        by None is g = absurd (grind arith)
        by (Some old) is g = (old, is)

-- ---- both orders

-- the worlds that they lead to
both_worlds : (m : ModuleValue) (w : World) → IsSound m w → (a b : ℕ) → (b ≡ a → ⊥) → (x y : Activity)
    → slice_get w.activities a ≡ Some x → slice_get w.activities b ≡ Some y → (d e : ℕ)
    → plain (clocks_swapped (length w.clocks)
    (made_world (made_world w b (maker y e (length w.clocks))) a (maker x d (suc (length w.clocks)))))
    ≡ plain (made_world (made_world w a (maker x d (length w.clocks))) b (maker y e (suc (length w.clocks))))
both_worlds m w sound a b differs x y at there d e =
    let n : ℕ = length w.clocks in
    let many : ℕ = length w.activities in
    let x_first : Activity = maker x d n in
    let x_last : Activity = maker x d (suc n) in
    let y_first : Activity = maker y e n in
    let y_last : Activity = maker y e (suc n) in
    let activities : map (activity_renamed n) (set (set w.activities b y_first) a x_last) ≡ set (set w.activities a x_first) b y_last =
    map-set (activity_renamed n) (set w.activities b y_first) a x_last
    ∙ ap (λ zs. set zs a (activity_renamed n x_last)) (map-set (activity_renamed n) w.activities b y_first
    ∙ ap (λ zs. set zs b (activity_renamed n y_first)) (all_stay n w.activities (activities_stay m w sound))
    ∙ ap (set w.activities b) (maker_renamed n y e n (suc n) (activities_stay m w sound b y there) (renamed_first n)))
    ∙ ap (set (set w.activities b y_last) a) (maker_renamed n x d (suc n) n (activities_stay m w sound a x at) (renamed_second n))
    ∙ set_other w.activities b a y_last x_first (λ h. differs (sym h)) in
    same_plain (clocks_swapped n (made_world (made_world w b y_first) a x_last)) (made_world (made_world w a x_first) b y_last)
    (ap (map plain_activity) activities)
    (ap (λ k. map plain_clock (neighbours_swapped n
    (map (settled_clock (w.steps + 1 + 1)) (map (settled_clock (w.steps + 1)) (w.clocks ++ new_clock many b ∷ []) ++ new_clock k a ∷ []))))
    (length-set w.activities b y_first)
    ∙ made_clocks (w.steps + 1 + 1) (w.steps + 1) (new_clock many a) (new_clock many b) w.clocks
    (new_still many a (slice_get_within w.activities a x at)) (new_still many b (slice_get_within w.activities b y there))
    (λ k c is. unready_still c (sound.clocks k c is).unready)
    ∙ sym (ap (λ k. map plain_clock (map (settled_clock (w.steps + 1 + 1))
    (map (settled_clock (w.steps + 1)) (w.clocks ++ new_clock many a ∷ []) ++ new_clock k b ∷ [])))
    (length-set w.activities a x_first)))
    refl refl

more_clocks : (w : World) (a : ℕ) (next : Activity) → length (made_world w a next).clocks ≡ suc (length w.clocks)
more_clocks w a next =
    omega (
      arith,
      length-map (w.clocks ++ new_clock (length w.activities) a ∷ []) (settled_clock (w.steps + 1)),
      length_push w.clocks (new_clock (length w.activities) a),
    )

-- each can follow the other, and then there are both clocks
pub makes_after : (m : ModuleValue) (w : World) → IsWithinLimits m → IsAccepted m → IsReached m w → (a b : ℕ) → (b ≡ a → ⊥)
    → makes_next m w a ≡ true → makes_next m w b ≡ true → (u v : World) (e f : Event) → step m w a ≡ Stepped u e → step m w b ≡ Stepped v f
    → (x : World) × (y : World) × (step m v a ≡ Stepped x e) × (step m u b ≡ Stepped y f)
    × (plain (clocks_swapped (length w.clocks) x) ≡ plain y)
    × (suc (length w.clocks) < length x.clocks)
makes_after m w limits ok reached a b differs first second u v e f hu hv = (
  there v a p (length v.clocks),
  there u b q (length u.clocks),
  made_step m v a p.act p.d p.old
      (ap (λ (z : World). slice_get z.activities a) vs.0 ∙ get-set_other w.activities b a (maker q.act q.d n) turned ∙ p.at) p.next p.slot
      ∙ ap (Stepped (there v a p (length v.clocks))) (sym us.1),
  made_step m u b q.act q.d q.old
      (ap (λ (z : World). slice_get z.activities b) us.0 ∙ get-set_other w.activities a b (maker p.act p.d n) differs ∙ q.at) q.next q.slot
      ∙ ap (Stepped (there u b q (length u.clocks))) (sym vs.1),
  ap (λ (z : World). plain (clocks_swapped n (there z a p (length z.clocks)))) vs.0
      ∙ ap (λ k. plain (clocks_swapped n (there (made_world w b (maker q.act q.d n)) a p k))) (more_clocks w b (maker q.act q.d n))
      ∙ both_worlds m w sound a b differs p.act q.act p.at q.at p.d q.d
      ∙ sym (ap (λ k. plain (there (made_world w a (maker p.act p.d n)) b q k)) (more_clocks w a (maker p.act p.d n)))
      ∙ sym (ap (λ (z : World). plain (there z b q (length z.clocks))) us.0),
  (let one = more_clocks w b (maker q.act q.d n) in let two = more_clocks v a (maker p.act p.d (length v.clocks)) in
      let same = ap (λ (z : World). length z.clocks) vs.0 in omega arith),
)
  where
    n : ℕ
    n = length w.clocks

    sound : IsSound m w
    sound = reached_sound m limits ok w reached

    turned : a ≡ b → ⊥
    turned e = differs (sym e)

    p : CanMake m w a
    p = can_make m w sound a u e hu first

    q : CanMake m w b
    q = can_make m w sound b v f hv second

    there : (z : World) (c : ℕ) → CanMake m w c → ℕ → World
    there z c r k = made_world z c (maker r.act r.d k)

    us : (u ≡ made_world w a (maker p.act p.d n)) × (e ≡ event.Made)
    us = same_step u (made_world w a (maker p.act p.d n)) e event.Made (sym hu ∙ made_step m w a p.act p.d p.old p.at p.next p.slot)

    vs : (v ≡ made_world w b (maker q.act q.d n)) × (f ≡ event.Made)
    vs = same_step v (made_world w b (maker q.act q.d n)) f event.Made (sym hv ∙ made_step m w b q.act q.d q.old q.at q.next q.slot)

pub makes_swapped : (m : ModuleValue) (w : World) → IsWithinLimits m → IsAccepted m → IsReached m w → (a b : ℕ) → (b ≡ a → ⊥)
    → makes_next m w a ≡ true → makes_next m w b ≡ true → IsSquareOfMakes m w a b
makes_swapped m w limits ok reached a b differs first second u v e f hu hv =
    let r = makes_after m w limits ok reached a b differs first second u v e f hu hv in
    (r.0, r.1, r.2, r.3, r.4)
