-- What holds of a core, by the law.
use Rattle.std.proofs.Common.{◌≡◌, ℕ, ◌+◌, ◌<◌, ◌≤◌, ◌^◌, true, false, not, ◌&&◌, length, Option, Some, None, slice_get, slice_index_or, arith, refl, ap, ◌∙◌}
use Rattle.std.proofs.lemmas.Option.{slice_get-get_or}
use Rattle.xk_types.specs.declared.world.Event.{Event}
use Rattle.xk_types.specs.declared.world.Status.{Status}
use Rattle.xk_types.specs.declared.world.Status.TheVariants as status
use Rattle.xk_types.specs.declared.instr.Instr.{Instr}
use Rattle.xk_types.specs.Code.{ModuleValue, IsWithinLimits}
use Rattle.xk_types.specs.World.{Activity, World, opening}
use Rattle.xk_types.specs.Step.{Stepped, carried_out, run_at, passing, step_by, step_of, step}
use Rattle.xk_types.specs.Schedule.{is_step, is_enabled, all_ended}
use Rattle.xk_types.specs.Bound.{steps_bound}
use Rattle.xk_types.specs.Acceptance.{IsAccepted}
use Rattle.std.specs.Prelude.{option_and_then}
use Rattle.xk_types.proofs.ListLemmas.{get_inside}
use Rattle.xk_activity.specs.Activities.{act_at, nobody}
use Rattle.xk_law_schedules.proofs.Invariant.{IsSound, IsClockSound}
use Rattle.xk_law_schedules.proofs.ReachabilityLemmas.{HasRoom, opening_only, reached_step, reached_sound, reached_scoped, reached_room, reached_ends}
use Rattle.xk_core.specs.InstructionEffect.{IsRoomy, carried_by, carried, passing_by, passed_on}
use Rattle.xk_core.specs.Enabledness.{is_able, is_kept}
use Rattle.xk_core.specs.Core.{IsCore, instruction_by, instruction_of, next_instruction}
use Rattle.xk_core.proofs.EnablednessLemmas.{able_enabled}

-- one more of each number fits its type
roomy : (m : ModuleValue) (w : World) (a : ℕ) → IsWithinLimits m → IsAccepted m → IsSound m w → HasRoom m w → a < length w.activities → IsRoomy m w a
roomy m w a limits accepted sound room lt = record {
  steps = omega (arith, room.steps, accepted.bounds.steps);
  phases = λ k d lt.
      let c : IsClockSound w.activities w.steps (slice_index_or w.clocks k d) = sound.clocks k _ (slice_get-get_or w.clocks k d lt) in
      omega (arith, c.phase, c.last, room.steps, accepted.bounds.steps);
  clocks = omega (arith, room.clocks, accepted.bounds.clocks);
  stands =
      let s = sound.activities a (act_at w.activities a) (slice_get-get_or w.activities a nobody lt) in
      let i = get_inside s.u.code (act_at w.activities a).frame.place s.frame.place in
      (i.0, ap (option_and_then (λ unit. slice_get unit.code (act_at w.activities a).frame.place)) s.unit ∙ i.1);
  standings = λ k d lt. (sound.clocks k _ (slice_get-get_or w.clocks k d lt)).width;
}

pub core_roomy : (m : ModuleValue) (w : World) (a : ℕ) → IsCore m w → a < length w.activities → IsRoomy m w a
core_roomy m w a core lt =
    roomy m w a core.limits core.accepted (reached_sound m core.limits core.accepted w core.reached) (reached_room m core.limits core.accepted w core.reached) lt

-- a core goes on by a step
pub core_stepped : (m : ModuleValue) (w v : World) (a : ℕ) (e : Event) → IsCore m w → step m w a ≡ Stepped v e → IsCore m v
core_stepped m w v a e core h = record { limits = core.limits; accepted = core.accepted; reached = reached_step m w v a e core.reached h }

-- a core has taken no more steps than the bound
pub core_bound : (m : ModuleValue) (w : World) → IsCore m w → w.steps ≤ steps_bound m
core_bound m w core = (reached_room m core.limits core.accepted w core.reached).steps

-- who is able and isn't kept is enabled
pub core_able : (m : ModuleValue) (w : World) (a : ℕ) → IsCore m w → (is_able w a && not (is_kept m w a)) ≡ is_enabled m w a
core_able m w a core = able_enabled m core.accepted w (reached_sound m core.limits core.accepted w core.reached) (reached_scoped m core.limits core.accepted w core.reached) a

-- where nobody is enabled, all have ended
pub core_ends : (m : ModuleValue) (w : World) → IsCore m w → ((a : ℕ) → a < length w.activities → is_enabled m w a ≡ false) → all_ended w ≡ true
core_ends m w core h = reached_ends m core.limits core.accepted w core.reached h

-- there are no more activities than a number of 32 bits names, and one more could be named
pub core_names : (m : ModuleValue) (w : World) → IsCore m w → length w.activities + 1 < 2 ^ 32
core_names m w core = omega (arith, (reached_room m core.limits core.accepted w core.reached).activities, core.accepted.bounds.activities)

-- ---- the two ways to step

pass_of : (m : ModuleValue) (w : World) (a : ℕ) (act : Activity) (s : Status) → is_step (step_by m w a act s) ≡ true → instruction_by m act s ≡ None
    → step_by m w a act s ≡ passing w a act
pass_of m w a act status.Running h e = let bad : is_step (run_at m w a act None) ≡ true = rw e at h in cc
pass_of m w a act status.Arrived h e = refl
pass_of m w a act status.Ended h e = cc

pass_at : (m : ModuleValue) (w : World) (a : ℕ) (o : Option Activity) → is_step (step_of m w a o) ≡ true → instruction_of m o ≡ None → step_of m w a o ≡ passing_by w a o
pass_at m w a None h e = cc
pass_at m w a (Some act) h e = pass_of m w a act act.status h e

-- an enabled activity that doesn't run waits at an `advance`
pub pass_step : (m : ModuleValue) (w : World) (a : ℕ) → is_enabled m w a ≡ true → next_instruction m w a ≡ None → step m w a ≡ passed_on w a
pass_step m w a h e = pass_at m w a (slice_get w.activities a) h e

carry_of : (m : ModuleValue) (w : World) (a : ℕ) (act : Activity) (s : Status) (i : Instr) → instruction_by m act s ≡ Some i → step_by m w a act s ≡ carried_out m w a act i
carry_of m w a act status.Running i e = rw e refl
carry_of m w a act status.Arrived i e = cc
carry_of m w a act status.Ended i e = cc

carry_at : (m : ModuleValue) (w : World) (a : ℕ) (o : Option Activity) (i : Instr) → instruction_of m o ≡ Some i → step_of m w a o ≡ carried_by m w a i o
carry_at m w a None i e = cc
carry_at m w a (Some act) i e = carry_of m w a act act.status i e

-- one that runs carries out its next instruction
pub carry_step : (m : ModuleValue) (w : World) (a : ℕ) (i : Instr) → next_instruction m w a ≡ Some i → step m w a ≡ carried m w a i
carry_step m w a i e = carry_at m w a (slice_get w.activities a) i e

-- a core that has taken no step is in the opening world
pub core_fresh : (m : ModuleValue) (w : World) → IsCore m w → w.steps ≡ 0 → w ≡ opening m w.arguments
core_fresh m w core h = opening_only m w core.reached h

-- nor more clocks
pub core_clocks : (m : ModuleValue) (w : World) → IsCore m w → length w.clocks < 2 ^ 32
core_clocks m w core = omega (arith, (reached_room m core.limits core.accepted w core.reached).clocks, core.accepted.bounds.clocks)
