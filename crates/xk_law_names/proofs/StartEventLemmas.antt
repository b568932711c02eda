-- A step has the event of a start if and only if the next instruction starts an activity.
use Rattle.std.proofs.Common.{◌≡◌, ℕ, true, false, true≢false, Some, None, Option, refl, sym, ap, ◌∙◌, subst}
use Rattle.std.specs.Prelude.{slice_get, option_and_then}
use Rattle.std.specs.Option.{option_map_or}
use Rattle.xk_types.specs.declared.instr.Instr.{Instr}
use Rattle.xk_types.specs.declared.instr.Instr.TheVariants as instr
use Rattle.xk_types.specs.declared.world.Status.{Status}
use Rattle.xk_types.specs.declared.world.Status.TheVariants as status
use Rattle.xk_types.specs.declared.world.Event.{Event}
use Rattle.xk_types.specs.declared.world.Event.TheVariants as event
use Rattle.xk_types.specs.Acceptance.{IsAccepted}
use Rattle.xk_types.specs.Code.{UnitValue, ModuleValue, IsWithinLimits}
use Rattle.xk_types.specs.World.{Activity, World, instruction_at}
use Rattle.xk_types.specs.Step.{Outcome, Blocked, Wrong, Stepped, run_at, step_by, step_of, step}
use Rattle.xk_types.specs.Schedule.{IsReached}
use Rattle.xk_law_schedules.proofs.ReachabilityLemmas.{reached_sound}
use Rattle.xk_law_schedules.proofs.StepFormLemmas.{finishes_of, spawning_form}
use Rattle.xk_law_commute.specs.Squares.{starts, starts_next}
use Rattle.xk_law_commute.proofs.ChangeSquareLemmas.{found_of, next_is}
use Rattle.xk_law_names.proofs.ActivityNameStartLaw.{IsStarting, starting}

-- it isn't a step, or starts an activity
abbrev DoesStart : Outcome → Type 0
DoesStart Blocked = Unit {0}
DoesStart (Wrong c) = Unit {0}
DoesStart (Stepped u e) = e ≡ event.Spawned

run_starts : (m : ModuleValue) (w : World) (a : ℕ) (act : Activity) (o : Option Instr) → option_map_or starts o false ≡ true
    → DoesStart (run_at m w a act o)
run_starts m w a act (Some (instr.Spawn t args)) h =
    spawning_form (λ outcome. DoesStart (outcome (finishes_of w act))) (λ c. tt) w a act m t args (slice_get m.units t)
    (λ u values at given. refl)
run_starts m w a act None h = absurd (true≢false (sym h))
run_starts m w a act (Some _) h = absurd (true≢false (sym h))

-- one that has arrived stands at an `advance`
pub at_advance : (m : ModuleValue) (act : Activity) (u : UnitValue) → slice_get m.units act.frame.unit ≡ Some u
    → slice_get u.code act.frame.place ≡ Some instr.Advance
    → instruction_at m act.frame ≡ Some instr.Advance
at_advance m act u unit at = ap (option_and_then (λ (v : UnitValue). slice_get v.code act.frame.place)) unit ∙ at

pub event_started : (m : ModuleValue) → IsWithinLimits m → IsAccepted m → (w u : World) (a : ℕ) (e : Event) → IsReached m w
    → step m w a ≡ Stepped u e
    → starts_next m w a ≡ true → e ≡ event.Spawned
event_started m limits ok w u a e reached takes h =
    subst DoesStart takes (subst DoesStart (sym (ap (step_of m w a) there)) (by act.status refl))
  where
    act : Activity
    act = (found_of m w a u e takes).0

    there : slice_get w.activities a ≡ Some act
    there = (found_of m w a u e takes).1

    here : option_map_or starts (instruction_at m act.frame) false ≡ true
    here = sym (ap (λ o. option_map_or starts (option_and_then (λ (x : Activity). instruction_at m x.frame) o) false) there) ∙ h

    by : (st : Status) → act.status ≡ st → DoesStart (step_by m w a act st)
    by status.Running is = run_starts m w a act (instruction_at m act.frame) here
    by status.Arrived is =
        let s = (reached_sound m limits ok w reached).activities a act there in
        absurd (true≢false (sym here ∙ ap (λ o. option_map_or starts o false) (at_advance m act s.u s.unit (s.advance is))))
    by status.Ended is = tt

pub start_says : (m : ModuleValue) (w u : World) (a : ℕ) → step m w a ≡ Stepped u event.Spawned → starts_next m w a ≡ true
start_says m w u a takes =
    let s : IsStarting m w a (step m w a) = starting m w a u takes in
    ap (λ o. option_map_or starts o false) (next_is m w a s.act (instr.Spawn s.unit s.args) s.found s.next)
