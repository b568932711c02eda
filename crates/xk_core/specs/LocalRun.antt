-- A stretch of steps of one activity that nobody else can see.
use Rattle.std.specs.Prelude.{◌≡◌, ◌⊎◌, ℕ, ◌+◌, ◌<◌, ◌^◌, [], replicate, slice_set}
use Rattle.xk_types.specs.declared.world.Event.TheVariants as event
use Rattle.xk_types.specs.World.{World}
use Rattle.xk_types.specs.Schedule.{Through, run, events, seen}
use Rattle.xk_activity.specs.Local.{FramesValue, Beyond, Stepped, local, ran}
use Rattle.xk_activity.specs.StepAgreement.{frames_in, with_frames}
use Rattle.xk_activity.specs.Activities.{act_at}
use Rattle.xk_core.specs.Core.{CoreValue, with_world}

-- the world after so many local steps of activity a, which leave it these frames
abbrev pub after_steps : World → ℕ → FramesValue → ℕ → World
after_steps w a fs n = record w { activities = slice_set w.activities a (with_frames (act_at w.activities a) fs); steps = w.steps + n }

-- up to max local steps of activity a were taken, n of them; there are fewer only where others can see the next one
pub record TakesSteps (c : CoreValue) (a max n : ℕ) (d : CoreValue) : Type 0 where
  pub frames : FramesValue
  pub ran : ran local (frames_in c.module_run (act_at c.world.activities a)) n ≡ Stepped frames
  pub is : d ≡ with_world c (after_steps c.world a frames n)
  pub stops : (n ≡ max) ⊎ (local frames ≡ Beyond)

-- however many local steps activity a takes, the number of steps fits its type
abbrev pub HasRoomForSteps : CoreValue → ℕ → Type 0
HasRoomForSteps c a = (n : ℕ) (fs : FramesValue) → ran local (frames_in c.module_run (act_at c.world.activities a)) n ≡ Stepped fs → c.world.steps + n < 2 ^ 64

-- the schedule of n steps of activity a leads from c to d
abbrev pub RunsTo : CoreValue → ℕ → ℕ → CoreValue → Type 0
RunsTo c a n d = run c.module_run (replicate n a) c.world ≡ Through d.world

-- and is one whose steps nobody else can see
abbrev pub AreLocal : CoreValue → ℕ → ℕ → Type 0
AreLocal c a n = events c.module_run (replicate n a) c.world ≡ replicate n (a, event.Local)

-- so that nothing is seen of it
abbrev pub IsUnseen : CoreValue → ℕ → ℕ → Type 0
IsUnseen c a n = seen c.module_run (replicate n a) c.world ≡ []
