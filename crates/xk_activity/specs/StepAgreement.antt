-- A local step, and a step of the world: how what the frames alone tell agrees with what the world's step does. This project's own.
use Rattle.std.specs.Prelude.{ℕ, ◌≡◌, false}
use Rattle.xk_types.specs.declared.world.Event.TheVariants as event
use Rattle.xk_types.specs.Code.{ModuleValue}
use Rattle.xk_types.specs.World.{Activity, World}
use Rattle.xk_types.specs.Step as world
use Rattle.xk_types.specs.Schedule.{is_local}
use Rattle.xk_activity.specs.Local.{FramesValue, Outcome, Beyond, Wrong, Stepped}

-- the frames of an activity of this module
abbrev pub frames_in : ModuleValue → Activity → FramesValue
frames_in m act = record { module_run = m; frame = act.frame; callers = act.callers }

-- the activity with these frames
abbrev pub with_frames : Activity → FramesValue → Activity
with_frames act fs = record act { frame = fs.frame; callers = fs.callers }

-- a step of the world that others can see, if it is one
abbrev pub IsSeen : world.Outcome → Type 0
IsSeen world.Blocked = Unit {0}
IsSeen (world.Wrong c) = Unit {0}
IsSeen (world.Stepped v e) = is_local e ≡ false

-- A step of the world is wrong, or it changes the frames of activity a so, and nothing else: it is counted.
abbrev pub IsLocally : World → ℕ → Activity → FramesValue → world.Outcome → Type 0
IsLocally w a act fs world.Blocked = ⊥
IsLocally w a act fs (world.Wrong c) = Unit {0}
IsLocally w a act fs (world.Stepped v e) = world.Stepped v e ≡ world.done w a (with_frames act fs) world.none event.Local

-- it is wrong
abbrev pub IsWrong : world.Outcome → Type 0
IsWrong world.Blocked = ⊥
IsWrong (world.Wrong c) = Unit {0}
IsWrong (world.Stepped v e) = ⊥

-- What a step of running activity a comes to in the world, by what it comes to on its frames. It may be wrong in the world alone: a
-- method may be lent a clock on which the activity isn't registered.
abbrev pub Agrees : World → ℕ → Activity → Outcome → world.Outcome → Type 0
Agrees w a act Beyond o = IsSeen o
Agrees w a act Wrong o = IsWrong o
Agrees w a act (Stepped fs) o = IsLocally w a act fs o
