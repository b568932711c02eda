-- A running core, as its clauses see it: a module, and a world that a legal schedule of it reaches.
use Rattle.std.specs.Prelude.{◌≡◌, ℕ, ℤ, ◌<◌, ◌==◌, Bool, true, false, not, List, length, filter, Option, Some, None, slice_get, slice_set, option_and_then}
use Rattle.std.specs.List.{list_all}
use Rattle.std.specs.Option.{option_map_or}
use Rattle.xk_types.specs.declared.instr.Instr.{Instr}
use Rattle.xk_types.specs.declared.world.Event.{Event}
use Rattle.xk_types.specs.declared.world.Event.TheVariants as event
use Rattle.xk_types.specs.declared.world.Status.{Status}
use Rattle.xk_types.specs.declared.world.Status.TheVariants as status
use Rattle.xk_types.specs.Code.{ModuleValue, IsWithinLimits}
use Rattle.xk_types.specs.World.{Activity, World, instruction_at, opening, standing_of, is_ended}
use Rattle.xk_types.specs.Step.{Outcome, Blocked, Wrong, Stepped, step, is_registered, is_signalled, settled, moved, none}
use Rattle.xk_types.specs.Schedule.{IsReached, is_enabled, is_local}
use Rattle.xk_types.specs.Acceptance.{IsAccepted}
use Rattle.xk_collections.specs.NumberSets.{numbers_from}
use Rattle.xk_activity.specs.declared.frames.Next.{Next}
use Rattle.xk_activity.specs.declared.frames.Next.TheVariants as next
use Rattle.xk_activity.specs.Local as frames
use Rattle.xk_activity.specs.StepAgreement.{frames_in, with_frames}
use Rattle.xk_activity.specs.Activities.{act_at}
use Rattle.xk_core.specs.InstructionEffect.{starts}

pub record CoreValue : Type 0 where
  pub module_run : ModuleValue
  pub world : World

-- the module is accepted, and some legal schedule of it leads to the world
pub record IsCore (m : ModuleValue) (w : World) : Type 0 where
  pub limits : IsWithinLimits m
  pub accepted : IsAccepted m
  pub reached : IsReached m w

-- the same module in another world
abbrev pub with_world : CoreValue → World → CoreValue
with_world c w = record c { world = w }

abbrev pub runs_now : Status → Bool
runs_now status.Running = true
runs_now status.Arrived = false
runs_now status.Ended = false

-- activity a exists and runs
abbrev pub is_running : World → ℕ → Bool
is_running w a = option_map_or (λ act. runs_now act.status) (slice_get w.activities a) false

abbrev pub instruction_by : ModuleValue → Activity → Status → Option Instr
instruction_by m act status.Running = instruction_at m act.frame
instruction_by m act status.Arrived = None
instruction_by m act status.Ended = None

abbrev pub instruction_of : ModuleValue → Option Activity → Option Instr
instruction_of m None = None
instruction_of m (Some act) = instruction_by m act act.status

-- the instruction that activity a carries out next, if it runs
abbrev pub next_instruction : ModuleValue → World → ℕ → Option Instr
next_instruction m w a = instruction_of m (slice_get w.activities a)

-- activity a is about to start another, for which memory is wanted
abbrev pub IsAboutToGrow : ModuleValue → World → ℕ → Type 0
IsAboutToGrow m w a = (i : Instr) × (next_instruction m w a ≡ Some i) × (starts i ≡ true)

-- the core of a module before its first step, its main given these numbers
abbrev pub opening_core : ModuleValue → List ℤ → CoreValue
opening_core m args = record { module_run = m; world = opening m args }

-- the instruction that activity a of a core carries out next, if it runs
abbrev pub next_of : CoreValue → ℕ → Option Instr
next_of c a = next_instruction c.module_run c.world a

-- the step of activity a leads from c to d, and is seen so
abbrev pub StepsTo : CoreValue → ℕ → CoreValue → Event → Type 0
StepsTo c a d e = step c.module_run c.world a ≡ Stepped d.world e

-- memory is wanted for the step of activity a
abbrev pub WantsMemory : CoreValue → ℕ → Type 0
WantsMemory c a = IsAboutToGrow c.module_run c.world a

-- a is enabled, and nobody of a smaller number is
abbrev pub IsLeastEnabled : ModuleValue → World → ℕ → Type 0
IsLeastEnabled m w a = (is_enabled m w a ≡ true) × ((b : ℕ) → b < a → is_enabled m w b ≡ false)

-- who opened the finish that governs activity a
abbrev pub governor : World → ℕ → Option ℕ
governor w a = option_and_then (λ act. act.governed.owner) (slice_get w.activities a)

-- activity a is registered on clock c
abbrev pub is_registered_on : World → ℕ → ℕ → Bool
is_registered_on w a c = option_map_or (λ k. is_registered (standing_of k a)) (slice_get w.clocks c) false

-- no clock advanced in the step that led to this world
abbrev pub is_quiet : World → Bool
is_quiet w = list_all (λ c. not (c.last == w.steps)) w.clocks

-- clock c advanced in that step
abbrev pub has_advanced : World → ℕ → Bool
has_advanced w c = option_map_or (λ k. k.last == w.steps) (slice_get w.clocks c) false

-- those that did, rising
abbrev pub advanced_now : World → List ℕ
advanced_now w = filter (has_advanced w) (numbers_from 0 (length w.clocks))

abbrev pub is_arrived : Status → Bool
is_arrived status.Running = false
is_arrived status.Arrived = true
is_arrived status.Ended = false

-- activity a exists and waits at an `advance`
abbrev pub is_waiting : World → ℕ → Bool
is_waiting w a = option_map_or (λ act. is_arrived act.status) (slice_get w.activities a) false

-- activity a exists and hasn't ended
abbrev pub is_living : World → ℕ → Bool
is_living w a = option_map_or (λ act. not (is_ended act.status)) (slice_get w.activities a) false

-- clock c holds activity a back: it is signalled on it
abbrev pub is_held_back_by : World → ℕ → ℕ → Bool
is_held_back_by w a c = option_map_or (λ k. is_signalled (standing_of k a)) (slice_get w.clocks c) false

-- a step that nobody else can see
abbrev pub is_taken_locally : Outcome → Bool
is_taken_locally Blocked = false
is_taken_locally (Wrong c) = false
is_taken_locally (Stepped w e) = is_local e

-- the next step of activity a is one; so it is enabled
abbrev pub is_next_local : CoreValue → ℕ → Bool
is_next_local c a = is_taken_locally (step c.module_run c.world a)

-- what an attempt at a local step of activity a makes of a core
abbrev pub TakesStep : CoreValue → ℕ → Next → CoreValue → Type 0
TakesStep c a next.Stepped d = (fs : frames.FramesValue) × (frames.local (frames_in c.module_run (act_at c.world.activities a)) ≡ frames.Stepped fs)
    × (d ≡ with_world c (settled (record c.world {
      activities = slice_set c.world.activities a (with_frames (act_at c.world.activities a) fs);
      clocks = moved a none c.world.clocks;
    })))
TakesStep c a next.Visible d = (frames.local (frames_in c.module_run (act_at c.world.activities a)) ≡ frames.Beyond) × (d ≡ c)

-- others can see the next step of running activity a
abbrev pub IsBeyond : CoreValue → ℕ → Type 0
IsBeyond c a = frames.local (frames_in c.module_run (act_at c.world.activities a)) ≡ frames.Beyond

-- the activity took a local step, or others can see its next one
abbrev pub Locally : CoreValue → ℕ → Next → CoreValue → Type 0
Locally c a next.Stepped d = StepsTo c a d event.Local
Locally c a next.Visible d = IsBeyond c a × (d ≡ c)
