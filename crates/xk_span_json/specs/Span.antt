-- How long a run had to take as a JSON value: work and span, rounds on some processors, a critical path by stretches and by lines, who came last
-- at each phase of a clock, and where activities waited. Nothing is left out. This project's own.
use Rattle.std.specs.Prelude.{ℕ, ℤ, nat_eq, Bool, true, false, List, [], ◌∷◌, length, Option, Some, None, codes, if◌then◌else◌}
use Rattle.serde_json.specs.Data.{Data, array, boolean, string}
use Rattle.serde_json.specs.View.{items_of}
use Rattle.xk_json.specs.Objects.{Group, array_of, number_value, object_of}
use Rattle.xk_types.specs.declared.world.Entry.{Entry}
use Rattle.xk_types.specs.declared.world.Event.{Event}
use Rattle.xk_types.specs.declared.world.Event.TheVariants as event
use Rattle.xk_types.specs.Code.{ModuleValue}
use Rattle.xk_show_events.specs.declared.steps.RunStep.{RunStep}
use Rattle.xk_show_events.specs.Events.{PlacesValue, event_name, origin_of}
use Rattle.xk_show_events.specs.Worlds.{each_below}
use Rattle.xk_races.specs.declared.deeds.Deed.{Deed}
use Rattle.xk_races.specs.Lists.{number_at}
use Rattle.xk_races.specs.Races.{is_race_free}
use Rattle.xk_span.specs.Steps.{critical_steps, steps_of_run, steps_span, steps_times, work_of}
use Rattle.xk_span_summary.specs.declared.stretches.Stretch.{Stretch}
use Rattle.xk_span_summary.specs.declared.waits.Wait.{Wait}
use Rattle.xk_span_summary.specs.Counts.{greatest}
use Rattle.xk_span_summary.specs.Shares.{least_rounds, level_rounds, widths_of}
use Rattle.xk_span_summary.specs.Stretches.{stretches_of}
use Rattle.xk_span_summary.specs.Waits.{waits_of}
use Rattle.xk_show_json.specs.Events.{origin_members}
use Rattle.xk_show_span.specs.Text.{lines_of}
use Rattle.xk_span_json.specs.Phases.{phases_value, step_value}

-- ---- work and span

-- `{"least":84,"most":118,"processors":2}`: on so many processors it takes no fewer rounds, and no more where each round of the ideal machine is
-- dealt out before the next one
abbrev pub processors_groups : ℕ → ℕ → List ℕ → ℕ → List Group
processors_groups work span widths p =
    ((codes "least", number_value (least_rounds p work span)) ∷ (codes "most", number_value (level_rounds p widths))
    ∷ (codes "processors", number_value p) ∷ []) ∷ []

abbrev pub processors_value : ℕ → ℕ → List ℕ → ℕ → Data
processors_value work span widths p = object_of (processors_groups work span widths p)

-- on 2, 4 and 8 of them, if the run has no race
abbrev pub processors_items : Bool → ℕ → ℕ → List ℕ → List Data
processors_items false work span widths = []
processors_items true work span widths =
    processors_value work span widths 2 ∷ processors_value work span widths 4 ∷ processors_value work span widths 8 ∷ []

-- Where there is no race, each run takes as many steps, has this span, and as many steps in its widest round (`work_for_all`, `span_for_all` and
-- `widths_for_all` of `xk_law_work`).
abbrev pub head_members : Bool → ℕ → ℕ → List ℕ → Group
head_members free work span widths =
    (codes "every_schedule", boolean free)
    ∷ (codes "processors", array (items_of (processors_items free work span widths)))
    ∷ (codes "span", number_value span)
    ∷ (codes "widest", number_value (greatest widths).many)
    ∷ (codes "work", number_value work)
    ∷ []

-- ---- the path

-- why a step comes behind one of another activity: it is the first of an activity that this one started, or passes a clock, or closes a finish, that
-- waited for it
abbrev pub why : Event → List ℕ
why event.Passed = codes "clock"
why event.Closed = codes "finish"
why event.Local = codes "start"
why (event.Printed n) = codes "start"
why event.Made = codes "start"
why event.Got = codes "start"
why event.Put = codes "start"
why event.Added = codes "start"
why event.Opened = codes "start"
why event.Spawned = codes "start"
why event.Resumed = codes "start"
why event.Dropped = codes "start"
why event.Arrived = codes "start"
why event.Ended = codes "start"

-- whose step a stretch comes behind, if there is one
abbrev pub behind_members : Option ℕ → Event → Group
behind_members None e = []
behind_members (Some a) e = (codes "behind", number_value a) ∷ (codes "why", string (why e)) ∷ []

-- steps of the path that are one activity's: the first and the last, in which rounds they are, and what they come behind
abbrev pub stretch_groups : PlacesValue → Stretch → List Group
stretch_groups p s =
    ((codes "first", step_value p s.first) ∷ (codes "last", step_value p s.last)
    ∷ (codes "start", number_value s.start) ∷ (codes "stop", number_value s.stop) ∷ [])
    ∷ behind_members s.behind s.first.event
    ∷ []

abbrev pub stretch_value : PlacesValue → Stretch → Data
stretch_value p s = object_of (stretch_groups p s)

-- `{"line":4,"steps":52}`: so many steps of the path come from a line
abbrev pub line_groups : ℕ → ℕ → List Group
line_groups line many = ((codes "line", number_value line) ∷ (codes "steps", number_value many) ∷ []) ∷ []

abbrev pub line_value : ℕ → ℕ → Data
line_value line many = object_of (line_groups line many)

-- if there are any
abbrev pub line_items : List ℕ → ℕ → List Data
line_items counts line = if nat_eq (number_at counts line) 0 then [] else line_value line (number_at counts line) ∷ []

-- of all lines, rising
abbrev pub lines_value : List ℕ → Data
lines_value counts = array (items_of (each_below (line_items counts) (length counts)))

abbrev pub path_members : PlacesValue → List RunStep → Group
path_members p path =
    (codes "lines", lines_value (lines_of p path)) ∷ (codes "path", array_of (stretch_value p) (stretches_of path)) ∷ []

-- ---- waits

-- `{"column":17,"event":"pass","line":11,"place":5,"rounds":82,"times":4,"unit":1}`: at an instruction activities waited so many rounds all together,
-- and so often
abbrev pub wait_groups : PlacesValue → Wait → List Group
wait_groups p w =
    ((codes "event", string (event_name w.step.event)) ∷ (codes "place", number_value w.step.place) ∷ (codes "rounds", number_value w.rounds)
    ∷ (codes "times", number_value w.times) ∷ (codes "unit", number_value w.step.unit) ∷ [])
    ∷ origin_members (origin_of p w.step.unit w.step.place)
    ∷ []

abbrev pub wait_value : PlacesValue → Wait → Data
wait_value p w = object_of (wait_groups p w)

abbrev pub standstill_members : PlacesValue → List ℕ → List Deed → Group
standstill_members p times ds =
    (codes "phases", phases_value p times ds) ∷ (codes "waits", array_of (wait_value p) (waits_of times ds)) ∷ []

-- ---- the value

-- of deeds and their times, by whether their run has no race
abbrev pub value_by : PlacesValue → Bool → List Deed → List ℕ → Data
value_by p free ds times = object_of (
    head_members free (work_of ds) (steps_span ds) (widths_of times ds)
    ∷ path_members p (critical_steps ds)
    ∷ standstill_members p times ds
    ∷ [])

-- what is told of the run that a log stands for
abbrev pub span_value : PlacesValue → ModuleValue → List ℤ → List Entry → Data
span_value p m args log = value_by p (is_race_free m args log) (steps_of_run m args log) (steps_times (steps_of_run m args log))
