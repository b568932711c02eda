-- Runs in which a person names who takes the next steps, and what is asked. X10 Language Specification 2.4, chapter Activities, Spawning an activity, leaves
-- the order of steps open; that somebody is asked for it, and how, is this project's own.
use Rattle.std.specs.Prelude.{◌≡◌, ℕ, zero, suc, ℤ, ◌-◌, Bool, ◌&&◌, List, [], ◌∷◌, ◌++◌, drop, map, flat_map, Option, Some, None, codes, decimal, if◌then◌else◌}
use Rattle.xk_types.specs.declared.world.Entry.{Entry}
use Rattle.xk_types.specs.declared.world.Event.{Event}
use Rattle.xk_types.specs.Code.{ModuleValue}
use Rattle.xk_types.specs.World.{World, opening}
use Rattle.xk_types.specs.Step.{Outcome, Blocked, Wrong, Stepped, step}
use Rattle.xk_types.specs.Bound.{steps_bound}
use Rattle.xk_types.specs.Schedule.{Leads, run, is_enabled, is_local, all_ended, printed}
use Rattle.xk_types.specs.Logs.{schedule_of, one_step_of}
use Rattle.xk_activity.specs.Activities.{act_at}
use Rattle.xk_scheduler.specs.Choosers.{enabled_in}
use Rattle.xk_show_events.specs.Worlds.{last_world}
use Rattle.xk_show_events.specs.Events.{PlacesValue, origin_of, place_words}
use Rattle.xk_ask.specs.Answers.{answers_read, behind_lines, most_bytes}
use Rattle.xk_ask.specs.ProgramTexts.{ProgramTextValue, printed_line, standings, statement}

-- ---- a turn

-- behind a step of activity a that was seen so and led to this world, its turn goes on: nobody else saw it, and the activity can take another
abbrev pub goes_on : ModuleValue → ℕ → World → Event → Bool
goes_on m a w e = is_local e && is_enabled m w a

abbrev pub turn_by : ModuleValue → ℕ → Outcome → (World → List ℕ) → List ℕ
turn_by m a Blocked go = []
turn_by m a (Wrong c) go = []
turn_by m a (Stepped v e) go = a ∷ (if goes_on m a v e then go v else [])

-- the steps of such a turn, of which no more are taken than this
abbrev pub turn_within : ℕ → ModuleValue → ℕ → World → List ℕ
turn_within zero m a w = []
turn_within (suc left) m a w = turn_by m a (step m w a) (turn_within left m a)

-- how many steps of a run may come behind this world, by the verified number of steps
abbrev pub steps_left : ModuleValue → World → ℕ
steps_left m w = steps_bound m - w.steps

-- The steps of activity a up to the first that others see, and that one, as far as it can take them. No run has more steps than the verified
-- number: so the limit cuts no turn short, and is there since a definition has to come to its end by itself.
abbrev pub turn : ModuleValue → ℕ → World → List ℕ
turn m a w = turn_within (steps_left m w) m a w

-- a step of activity a leads from w to v, and this is whether its turn goes on
pub record IsTurnStep (m : ModuleValue) (a : ℕ) (w v : World) (more : Bool) : Type 0 where
  pub event : Event
  pub stepped : step m w a ≡ Stepped v event
  pub more_is : more ≡ goes_on m a v event

-- ---- a game

-- who can step, if an answer names somebody who can
abbrev pub picked : ModuleValue → World → Option ℕ → Option ℕ
picked m w None = None
picked m w (Some a) = if is_enabled m w a then Some a else None

-- the steps that are taken then
abbrev pub taken : ModuleValue → World → Option ℕ → List ℕ
taken m w None = []
taken m w (Some a) = turn m a w

-- the world behind these steps
abbrev pub behind : ModuleValue → World → Option ℕ → World
behind m w o = last_world (run m (taken m w o) w)

-- the steps of a run from this world, by these answers
abbrev pub played : ModuleValue → List (Option ℕ) → World → List ℕ
played m [] w = []
played m (x ∷ xs) w = taken m w (picked m w x) ++ played m xs (behind m w (picked m w x))

-- how many of these answers are looked at, from this world on: all, or those up to the end of the run
abbrev pub looked_at : ModuleValue → List (Option ℕ) → World → ℕ
looked_at m [] w = 0
looked_at m (x ∷ xs) w = if all_ended w then 0 else suc (looked_at m xs (behind m w (picked m w x)))

-- ---- what is asked

-- the log behind these steps, an entry for each
abbrev pub log_behind : ModuleValue → World → List Entry → Option ℕ → List Entry
log_behind m w log o = log ++ map one_step_of (taken m w o)

-- the numbers that were printed in the run with this log, which has come to this world
abbrev pub printed_by : ModuleValue → World → List Entry → List ℤ
printed_by m w log = printed m (schedule_of log) (opening m w.arguments)

-- an activity, and where its instruction is, as `where` tells it: `act 0 at 8:13`
unfoldable pub able_head : PlacesValue → ℕ → ℕ → ℕ → List ℕ
able_head p a unit place = codes "act " ++ (decimal a ++ (codes " " ++ place_words unit place (origin_of p unit place)))

-- and the line of the text there, if it is known: `act 0 at 8:13: Console.OUT.println(1);`
unfoldable pub able_line : ProgramTextValue → World → ℕ → List ℕ
able_line p w a =
    (able_head p.places a (act_at w.activities a).frame.unit (act_at w.activities a).frame.place
    ++ statement p.places (act_at w.activities a).frame.unit (act_at w.activities a).frame.place) ++ codes "\n"

-- a line for each that can step, rising
abbrev pub able_lines : ProgramTextValue → ModuleValue → World → List ℕ
able_lines p m w = flat_map (able_line p w) (enabled_in m w)

-- behind the lines of those who can step
abbrev pub prompt_line : List ℕ
prompt_line = codes "who steps?\n"

-- where an answer names none of them
abbrev pub again_line : List ℕ
again_line = codes "none of these: who steps?\n"

-- where no answer comes, and the run has not come to its end
abbrev pub end_line : List ℕ
end_line = codes "the input has ended\n"

-- How things are, what was printed so far, who can step, rising, and the question which of them does; where all have ended nothing is asked.
abbrev pub question_at : ProgramTextValue → ModuleValue → World → List ℤ → List ℕ
question_at p m w ns = if all_ended w then [] else ((standings p m w ++ printed_line ns) ++ able_lines p m w) ++ prompt_line

-- the same of a run with this log
abbrev pub question : ProgramTextValue → ModuleValue → World → List Entry → List ℕ
question p m w log = question_at p m w (printed_by m w log)

-- what is said to an answer: the next question, or that it names none of these
abbrev pub said : ProgramTextValue → ModuleValue → World → List Entry → Option ℕ → List ℕ
said p m w log None = again_line
said p m w log (Some a) = question p m (behind m w (Some a)) (log_behind m w log (Some a))

-- what is said where no answer comes
abbrev pub end_words : World → List ℕ
end_words w = if all_ended w then [] else end_line

-- what is said to these answers, behind the question of this world, to which the run with this log has come; where all have ended no answer is looked at
abbrev pub all_said : ProgramTextValue → ModuleValue → List (Option ℕ) → World → List Entry → List ℕ
all_said p m [] w log = end_words w
all_said p m (x ∷ xs) w log =
    if all_ended w then []
    else said p m w log (picked m w x) ++ all_said p m xs (behind m w (picked m w x)) (log_behind m w log (picked m w x))

-- ---- by answers

-- the log of the run by these answers, where main is given these numbers: an entry for each step
abbrev pub log_by : ModuleValue → List ℤ → List (Option ℕ) → List Entry
log_by m args xs = map one_step_of (played m xs (opening m args))

-- all that is asked and said
abbrev pub told_by : ProgramTextValue → ModuleValue → List ℤ → List (Option ℕ) → List ℕ
told_by p m args xs = question p m (opening m args) [] ++ all_said p m xs (opening m args) []

-- ---- by the bytes of the input

-- the same by the answers in these bytes
abbrev pub played_log : ModuleValue → List ℤ → List ℕ → List Entry
played_log m args text = log_by m args (answers_read text)

abbrev pub told_text : ProgramTextValue → ModuleValue → List ℤ → List ℕ → List ℕ
told_text p m args text = told_by p m args (answers_read text)

-- Which bytes aren't read, where a run from this world comes to its end or doesn't: those behind the line of the last answer that is looked at; or none,
-- but those behind as many as are read at most.
abbrev pub unread_from : ModuleValue → World → Bool → List ℕ → List ℕ
unread_from m w whole text = if whole then behind_lines (looked_at m (answers_read text) w) text else drop most_bytes text

-- the same of a run in which main is given these numbers
abbrev pub unread : ModuleValue → List ℤ → Bool → List ℕ → List ℕ
unread m args whole text = unread_from m (opening m args) whole text

-- The entries stand for a legal schedule of the module with these arguments, which prints these numbers and takes so many steps. It is whole if all have ended.
pub record IsPlayed (m : ModuleValue) (args : List ℤ) (log : List Entry) (numbers : List ℤ) (steps : ℕ) (whole : Bool) : Type 0 where
  pub last : World
  pub leads : Leads m (schedule_of log) last
  pub given : last.arguments ≡ args
  pub numbers_are : numbers ≡ printed m (schedule_of log) (opening m args)
  pub steps_are : steps ≡ last.steps
  pub whole_is : whole ≡ all_ended last
