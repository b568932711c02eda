-- Worlds in which two neighbours among the clocks have changed places: a clock's number is its name, and no more.
use Rattle.std.specs.Prelude.{◌≡◌, ℕ, List, length, map}
use Rattle.xk_types.specs.declared.world.Value.{Value}
use Rattle.xk_types.specs.declared.world.Value.TheVariants as value
use Rattle.xk_types.specs.declared.world.Event.{Event}
use Rattle.xk_types.specs.Code.{ModuleValue}
use Rattle.xk_types.specs.World.{Frame, Activity, World}
use Rattle.xk_types.specs.Step.{Outcome, Blocked, Wrong, Stepped, step}
use Rattle.xk_types.specs.Schedule.{Course, Through, Held, Wronged, run, events, printed}
use Rattle.xk_law_commute.specs.PlainWorlds.{AreAlike}
use Rattle.xk_law_names.specs.ActivityNames.{neighbours_swapped, renamed}

-- a value in which clocks k and k + 1 have each other's number
abbrev pub value_renamed : ℕ → Value → Value
value_renamed k value.Unset = value.Unset
value_renamed k (value.Number n) = value.Number n
value_renamed k (value.Clock c) = value.Clock (renamed k c)

-- a frame in which they have
abbrev pub frame_renamed : ℕ → Frame → Frame
frame_renamed k f = record f { slots = map (value_renamed k) f.slots }

-- an activity in which they have
abbrev pub activity_renamed : ℕ → Activity → Activity
activity_renamed k act = record act { frame = frame_renamed k act.frame; callers = map (frame_renamed k) act.callers }

-- the world in which clocks k and k + 1 have changed places
abbrev pub clocks_swapped : ℕ → World → World
clocks_swapped k w = record w { activities = map (activity_renamed k) w.activities; clocks = neighbours_swapped k w.clocks }

-- what a step comes to, the world after it being so
abbrev pub outcome_swapped : ℕ → Outcome → Outcome
outcome_swapped k Blocked = Blocked
outcome_swapped k (Wrong c) = Wrong c
outcome_swapped k (Stepped w e) = Stepped (clocks_swapped k w) e

-- what a run comes to, the world after it being so
abbrev pub course_swapped : ℕ → Course → Course
course_swapped k (Through w) = Through (clocks_swapped k w)
course_swapped k (Held w) = Held (clocks_swapped k w)
course_swapped k (Wronged w c) = Wronged (clocks_swapped k w) c

-- the schedule goes the same way from the world in which clocks k and k + 1 have changed places, with the same events, and prints the same
pub record GoesSwapped (m : ModuleValue) (w : World) (k : ℕ) (s : List ℕ) : Type 0 where
  pub course : run m s (clocks_swapped k w) ≡ course_swapped k (run m s w)
  pub events : events m s (clocks_swapped k w) ≡ events m s w
  pub prints : printed m s (clocks_swapped k w) ≡ printed m s w

-- Where activities a and b can both take a step, each still can after the other's, with the same event, and the two orders lead to worlds
-- that are alike once two clocks have changed places: those after the ones that there are, which are the two new ones.
abbrev pub IsSquareOfMakes : ModuleValue → World → ℕ → ℕ → Type 0
IsSquareOfMakes m w a b = (u v : World) (e f : Event) → step m w a ≡ Stepped u e → step m w b ≡ Stepped v f
    → (x : World) × (y : World) × (step m v a ≡ Stepped x e) × (step m u b ≡ Stepped y f) × AreAlike (clocks_swapped (length w.clocks) x) y
