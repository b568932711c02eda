-- An activity that is to begin, once there is room for it.
use Rattle.std.proofs.Common.{◌≡◌, ℕ, ◌<◌, ◌≤◌, true, List, length, ap}
use Rattle.xk_types.specs.declared.instr.Instr.TheVariants as instr
use Rattle.xk_types.specs.Step.{child, is_given}
use Rattle.xk_types.specs.Schedule.{is_step}
use Rattle.xk_activity.specs.Activities.{ActivityValue, act_at}
use Rattle.xk_law_schedules.specs.ClockRoom.{places_of}
use Rattle.xk_registrations.specs.View.{held}
use Rattle.xk_registrations.specs.RegistrationChanges.{RegistrationsValue, IsGiven}
use Rattle.xk_core.specs.InstructionEffect.{carried}
use Rattle.xk_core.specs.State.{NewcomerValue, IsReady, StateValue, values_of, core_of}

-- one that is made of these
abbrev pub newcomer_of : ActivityValue → RegistrationsValue → NewcomerValue
newcomer_of x r = record { module_run = x.module_run; act = x.act; registrations = r.list; places = r.room }

-- it is ready once there is room, where it was made in the same world before
pub made_ready : (s t : StateValue) (a unit : ℕ) (args : List ℕ) (x : NewcomerValue) → core_of t ≡ core_of s → t.held ≡ s.held
    → is_step (carried s.module_run s.world a (instr.Spawn unit args)) ≡ true → length s.world.activities < t.room → x.module_run ≡ s.module_run
    → x.act ≡ child s.module_run a (act_at s.world.activities a) unit (values_of s a args)
    → IsGiven (is_given (values_of s a args)) (held s.held a) x.registrations → places_of s.module_run x.act ≤ x.places → IsReady t a unit args x
made_ready s t a unit args x core same enabled room module_is act given places =
    let m = ap (λ v. v.module_run) core in
    let w = ap (λ v. v.world) core in
    rw (m, w, same) (record { enabled = enabled; room = room; same = module_is; act = act; given = given; places = places })
