-- The world but for its finishes, as the clauses of its calls see it, and an activity that is to begin in it.
use Rattle.std.specs.Prelude.{◌≡◌, ℕ, ◌<◌, ◌≤◌, true, List, length}
use Rattle.xk_types.specs.declared.instr.Instr.TheVariants as instr
use Rattle.xk_types.specs.declared.world.Value.{Value}
use Rattle.xk_types.specs.Code.{ModuleValue}
use Rattle.xk_types.specs.World.{Activity, World}
use Rattle.xk_types.specs.Step.{child, is_given}
use Rattle.xk_types.specs.Schedule.{is_step}
use Rattle.xk_activity.specs.Activities.{act_at}
use Rattle.xk_activity.specs.FrameStack.{values_at}
use Rattle.xk_law_schedules.specs.ClockRoom.{places_of}
use Rattle.xk_registrations.specs.View.{Registration, held}
use Rattle.xk_registrations.specs.RegistrationChanges.{IsGiven}
use Rattle.xk_core.specs.InstructionEffect.{carried}
use Rattle.xk_core.specs.Core.{CoreValue}

-- the module, and the world without finishes; what each activity is registered on, and how many activities there is room for
pub record StateValue : Type 0 where
  pub module_run : ModuleValue
  pub world : World
  pub held : List (List Registration)
  pub room : ℕ

-- the module and the world alone
abbrev pub core_of : StateValue → CoreValue
core_of s = record { module_run = s.module_run; world = s.world }

-- an activity that is to begin, the module that it runs, what it will be registered on, and on how many clocks it may be
pub record NewcomerValue : Type 0 where
  pub module_run : ModuleValue
  pub act : Activity
  pub registrations : List Registration
  pub places : ℕ

-- the values of these slots of activity a
abbrev pub values_of : StateValue → ℕ → List ℕ → List Value
values_of s a args = values_at (act_at s.world.activities a).frame.slots args

-- activity a can start the newcomer at this `spawn`, and there is room for it
pub record IsReady (s : StateValue) (a unit : ℕ) (args : List ℕ) (x : NewcomerValue) : Type 0 where
  pub enabled : is_step (carried s.module_run s.world a (instr.Spawn unit args)) ≡ true
  pub room : length s.world.activities < s.room
  pub same : x.module_run ≡ s.module_run
  pub act : x.act ≡ child s.module_run a (act_at s.world.activities a) unit (values_of s a args)
  pub given : IsGiven (is_given (values_of s a args)) (held s.held a) x.registrations
  pub places : places_of s.module_run x.act ≤ x.places
