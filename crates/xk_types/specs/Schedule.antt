-- Schedules: lists of activity numbers, and what comes of them. X10 Language Specification 2.4, chapter Activities: activities go on at
-- the same time (Spawning an activity), and the program ends when all have ended (Initial activity). That one step goes after another, and
-- that a list says whose, is this project's own.
use Rattle.std.specs.Prelude.{◌≡◌, ℕ, ℤ, Bool, true, false, not, List, [], ◌∷◌, Option, Some, None, filter}
use Rattle.std.specs.List.{list_all, filter_map}
use Rattle.xk_types.specs.declared.world.Event.{Event}
use Rattle.xk_types.specs.declared.world.Event.TheVariants as event
use Rattle.xk_types.specs.Code.{ModuleValue}
use Rattle.xk_types.specs.World.{World, opening, AreArguments, is_ended}
use Rattle.xk_types.specs.Step.{Cause, Outcome, Blocked, Wrong, Stepped, step}

-- How a list of activity numbers goes: through to a last world; or it stops in a world before a step that is blocked, or
-- before one that is wrong.
pub data Course : Type 0 where
  Through : World → Course
  Held : World → Course
  Wronged : World → Cause → Course

-- a run goes on behind a step that is taken, and stops before any other
abbrev pub run_on : World → Outcome → (World → Course) → Course
run_on w Blocked go = Held w
run_on w (Wrong c) go = Wronged w c
run_on w (Stepped next e) go = go next

-- one step of each activity named, in order
abbrev pub run : ModuleValue → List ℕ → World → Course
run m [] w = Through w
run m (a ∷ list) w = run_on w (step m w a) (run m list)

-- the list is a legal schedule of the module with the arguments that this world has, and leads to it
abbrev pub Leads : ModuleValue → List ℕ → World → Type 0
Leads m list w = AreArguments m w.arguments × (run m list (opening m w.arguments) ≡ Through w)

-- some legal schedule leads here
abbrev pub IsReached : ModuleValue → World → Type 0
IsReached m w = (list : List ℕ) × Leads m list w

-- ---- enabled, ended

-- a step is taken
abbrev pub is_step : Outcome → Bool
is_step Blocked = false
is_step (Wrong c) = false
is_step (Stepped w e) = true

-- the activity can take a step
abbrev pub is_enabled : ModuleValue → World → ℕ → Bool
is_enabled m w a = is_step (step m w a)

-- every activity has ended
abbrev pub all_ended : World → Bool
all_ended w = list_all (λ act. is_ended act.status) w.activities

-- ---- what is seen of a run

-- no other activity sees it
abbrev pub is_local : Event → Bool
is_local event.Local = true
is_local (event.Printed n) = false
is_local event.Made = false
is_local event.Got = false
is_local event.Put = false
is_local event.Added = false
is_local event.Opened = false
is_local event.Closed = false
is_local event.Spawned = false
is_local event.Resumed = false
is_local event.Dropped = false
is_local event.Arrived = false
is_local event.Passed = false
is_local event.Ended = false

-- the event of a step of activity a, and those of the rest of the run
abbrev pub events_on : ℕ → Outcome → (World → List (ℕ × Event)) → List (ℕ × Event)
events_on a Blocked go = []
events_on a (Wrong c) go = []
events_on a (Stepped next e) go = (a, e) ∷ go next

-- the activity and the event of each step
abbrev pub events : ModuleValue → List ℕ → World → List (ℕ × Event)
events m [] w = []
events m (a ∷ list) w = events_on a (step m w a) (events m list)

-- those that aren't local
abbrev pub seen : ModuleValue → List ℕ → World → List (ℕ × Event)
seen m list w = filter (λ p. not (is_local p.1)) (events m list w)

-- the number that an event prints
abbrev pub number_printed : Event → Option ℤ
number_printed event.Local = None
number_printed (event.Printed n) = Some n
number_printed event.Made = None
number_printed event.Got = None
number_printed event.Put = None
number_printed event.Added = None
number_printed event.Opened = None
number_printed event.Closed = None
number_printed event.Spawned = None
number_printed event.Resumed = None
number_printed event.Dropped = None
number_printed event.Arrived = None
number_printed event.Passed = None
number_printed event.Ended = None

-- the numbers that a run prints
abbrev pub printed : ModuleValue → List ℕ → World → List ℤ
printed m list w = filter_map (λ p. number_printed p.1) (seen m list w)
