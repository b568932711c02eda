-- Who is told to wait is held back: by a clock at an `advance`, or by somebody under the finish at an `endfinish`.
use Rattle.std.proofs.Common.{◌≡◌, ◌∙◌, ℕ, Bool, true, false, not, ◌&&◌, Option, Some, None, slice_get, refl, sym, ap}
use Rattle.std.specs.Prelude.{nat_lt, length, option_and_then, if◌then◌else◌}
use Rattle.std.specs.Option.{option_map_or}
use Rattle.std.proofs.lemmas.Option.{get_or_from_slice_get}
use Rattle.xk_types.specs.declared.instr.Instr.TheVariants as instr
use Rattle.xk_types.specs.declared.world.Status.{Status}
use Rattle.xk_types.specs.declared.world.Status.TheVariants as status
use Rattle.xk_types.specs.Code.{ModuleValue}
use Rattle.xk_types.specs.World.{Activity, World, instruction_at, is_ended}
use Rattle.xk_types.specs.Step.{waits}
use Rattle.xk_types.specs.Schedule.{is_enabled}
use Rattle.xk_law_schedules.proofs.Invariant.{IsSound}
use Rattle.xk_law_schedules.proofs.ReachabilityLemmas.{reached_sound, reached_scoped}
use Rattle.xk_activity.specs.Activities.{act_at, nobody}
use Rattle.xk_core.specs.Core.{IsCore, instruction_of, is_arrived, is_living, is_waiting}
use Rattle.xk_core.specs.Enabledness.{able_by, able_of, is_able, is_kept, kept_by}
use Rattle.xk_core.proofs.EnablednessLemmas.{able_enabled}
use Rattle.xk_show_where.specs.declared.condition.Condition.{Condition}
use Rattle.xk_show_where.specs.declared.condition.Condition.TheVariants as condition
use Rattle.xk_show_where.specs.Where.{condition_of}

-- a condition, by whether somebody lives, can step, has arrived, and is there
abbrev by : Bool → Bool → Bool → Bool → Condition
by lives can arrived there =
    if lives then (if can then condition.Able else (if arrived then condition.ForClocks else condition.InFinish))
    else (if there then condition.Ended else condition.Absent)

for_clocks : (l c r t : Bool) → by l c r t ≡ condition.ForClocks → (l ≡ true) × (c ≡ false) × (r ≡ true)
for_clocks true true r t h = absurd (cc)
for_clocks true false true t h = (refl, refl, refl)
for_clocks true false false t h = absurd (cc)
for_clocks false c r true h = absurd (cc)
for_clocks false c r false h = absurd (cc)

in_finish : (l c r t : Bool) → by l c r t ≡ condition.InFinish → (l ≡ true) × (c ≡ false) × (r ≡ false)
in_finish true true r t h = absurd (cc)
in_finish true false true t h = absurd (cc)
in_finish true false false t h = (refl, refl, refl)
in_finish false c r true h = absurd (cc)
in_finish false c r false h = absurd (cc)

-- who lives and hasn't arrived is able
able_running : (w : World) (a : ℕ) (o : Option Activity) → option_map_or (λ act. not (is_ended act.status)) o false ≡ true
    → option_map_or (λ act. is_arrived act.status) o false ≡ false → able_of w a o ≡ true
able_running w a None lives arrived = absurd (cc)
able_running w a (Some act) lives arrived = of act.status lives arrived
  where
    of : (s : Status) → not (is_ended s) ≡ true → is_arrived s ≡ false → able_by w a s ≡ true
    of status.Running h g = refl
    of status.Arrived h g = absurd (cc)
    of status.Ended h g = absurd (cc)

kept_so : (able kept : Bool) → (able && not kept) ≡ false → able ≡ true → kept ≡ true
kept_so true true h g = refl
kept_so true false h g = sym h
kept_so false kept h g = absurd (cc)

-- who has arrived isn't kept by a finish, and is able where no clock holds it back
held_so : (m : ModuleValue) (w : World) (a : ℕ) (o : Option Activity) → option_map_or (λ act. is_arrived act.status) o false ≡ true
    → (able_of w a o && not (kept_by w a o (instruction_of m o))) ≡ false → waits w a ≡ true
held_so m w a None arrived h = absurd (cc)
held_so m w a (Some act) arrived h = of act.status refl arrived
  where
    twice : (b : Bool) → (not b && true) ≡ false → b ≡ true
    twice true k = refl
    twice false k = sym k

    of : (s : Status) → act.status ≡ s → is_arrived s ≡ true → waits w a ≡ true
    of status.Running e g = absurd (cc)
    of status.Arrived e g = twice (waits w a)
        (sym (ap (λ z. able_by w a z && not (kept_by w a (Some act) (Rattle.xk_core.specs.Core.instruction_by m act z))) e) ∙ h)
    of status.Ended e g = absurd (cc)

-- who has arrived stands at its `advance`
at_advance : (m : ModuleValue) (w : World) (a : ℕ) → IsSound m w → is_waiting w a ≡ true → instruction_at m (act_at w.activities a).frame ≡ Some instr.Advance
at_advance m w a sound arrived = of (slice_get w.activities a) refl arrived
  where
    has_arrived : (s : Status) → is_arrived s ≡ true → s ≡ status.Arrived
    has_arrived status.Running h = absurd (cc)
    has_arrived status.Arrived h = refl
    has_arrived status.Ended h = absurd (cc)

    of : (o : Option Activity) → slice_get w.activities a ≡ o → option_map_or (λ act. is_arrived act.status) o false ≡ true
        → instruction_at m (act_at w.activities a).frame ≡ Some instr.Advance
    of None e h = absurd (cc)
    of (Some act) e h =
        let me = sound.activities a act e in
        ap (λ (x : Activity). instruction_at m x.frame) (get_or_from_slice_get w.activities a act nobody e)
        ∙ ap (option_and_then (λ unit. slice_get unit.code act.frame.place)) me.unit ∙ me.advance (has_arrived act.status h)

pub told_for_clocks : (m : ModuleValue) (w : World) (a : ℕ) → IsCore m w → condition_of m w a ≡ condition.ForClocks
    → (is_waiting w a ≡ true) × (waits w a ≡ true) × (instruction_at m (act_at w.activities a).frame ≡ Some instr.Advance)
told_for_clocks m w a core h =
    let t = for_clocks (is_living w a) (is_enabled m w a) (is_waiting w a) (nat_lt a (length w.activities)) h in
    let sound = reached_sound m core.limits core.accepted w core.reached in
    let e = able_enabled m core.accepted w sound (reached_scoped m core.limits core.accepted w core.reached) a in
    (t.2, held_so m w a (slice_get w.activities a) t.2 (e ∙ t.1), at_advance m w a sound t.2)

pub told_in_finish : (m : ModuleValue) (w : World) (a : ℕ) → IsCore m w → condition_of m w a ≡ condition.InFinish → is_kept m w a ≡ true
told_in_finish m w a core h =
    let t = in_finish (is_living w a) (is_enabled m w a) (is_waiting w a) (nat_lt a (length w.activities)) h in
    let e = able_enabled m core.accepted w (reached_sound m core.limits core.accepted w core.reached) (reached_scoped m core.limits core.accepted w core.reached) a in
    kept_so (is_able w a) (is_kept m w a) (e ∙ t.1) (able_running w a (slice_get w.activities a) t.0 t.2)
