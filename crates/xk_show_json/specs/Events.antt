-- What others see of the steps of a run, a JSON value for each step: whose it was, where it was taken, what it did, and to what. This project's own.
use Rattle.std.specs.Prelude.{ℕ, ℤ, false, List, [], ◌∷◌, ◌++◌, Option, Some, None, option_map, codes, if◌then◌else◌}
use Rattle.serde_json.specs.Data.{Data, boolean, string}
use Rattle.xk_json.specs.Objects.{Group, integer_value, json_line, number_value, object_of}
use Rattle.xk_types.specs.declared.world.Entry.{Entry}
use Rattle.xk_types.specs.declared.world.Event.{Event}
use Rattle.xk_types.specs.declared.world.Event.TheVariants as event
use Rattle.xk_types.specs.Code.{ModuleValue}
use Rattle.xk_types.specs.World.{World}
use Rattle.xk_types.specs.Schedule.{all_ended, is_local}
use Rattle.xk_lines.specs.declared.lines.Position.{Position}
use Rattle.xk_show_events.specs.declared.steps.RunStep.{RunStep}
use Rattle.xk_show_events.specs.Endings.{ending_words}
use Rattle.xk_show_events.specs.Events.{PlacesValue, event_name, no_text, origin_of}
use Rattle.xk_show_events.specs.Steps.{told_of_run}
use Rattle.xk_show_names.specs.declared.accounts.Account.{Account}
use Rattle.xk_show_names.specs.declared.accounts.Subject.{Subject}
use Rattle.xk_show_names.specs.declared.accounts.Subject.TheVariants as subject
use Rattle.xk_show_names.specs.Accounts.{recounted_by}
use Rattle.xk_show_names.specs.ClockNames.{NamesValue, names_in_run}
use Rattle.xk_show_names.specs.Events.{clock_word, shared_word}

-- ---- a step

-- which step it was, whose, at which instruction, and what it did in a word
abbrev pub step_members : RunStep → Group
step_members s =
    (codes "act", number_value s.act)
    ∷ (codes "event", string (event_name s.event))
    ∷ (codes "place", number_value s.place)
    ∷ (codes "step", number_value s.number)
    ∷ (codes "unit", number_value s.unit)
    ∷ []

-- the line and column that the instruction comes from, if they are known
abbrev pub origin_members : Option Position → Group
origin_members None = []
origin_members (Some p) = (codes "column", number_value p.column) ∷ (codes "line", number_value p.line) ∷ []

-- the number that was printed, and that of the activity that was started
abbrev pub operand_member : ℕ → Event → Group
operand_member activities (event.Printed n) = (codes "printed", integer_value n) ∷ []
operand_member activities event.Spawned = (codes "started", number_value activities) ∷ []
operand_member activities _ = []

-- ---- what it was about

abbrev pub name_member : Option (List ℕ) → Group
name_member None = []
name_member (Some name) = (codes "name", string name) ∷ []

-- the clock or the shared number, by its number, and by its name where names are known
abbrev pub subject_members : Option NamesValue → Subject → Group
subject_members names subject.Nothing = []
subject_members names (subject.Clock c) = (codes "clock", number_value c) ∷ name_member (option_map (λ n. clock_word n c) names)
subject_members names (subject.Shared s) = (codes "shared", number_value s) ∷ name_member (option_map (λ n. shared_word n s) names)

-- what a shared number was under this key
abbrev pub value_member : List ℕ → Option ℤ → Group
value_member key None = []
value_member key (Some i) = (key, integer_value i) ∷ []

-- ---- values

-- all that is told of a step
abbrev pub event_groups : PlacesValue → Option NamesValue → Account → List Group
event_groups p names a =
    step_members a.step
    ∷ origin_members (origin_of p a.step.unit a.step.place)
    ∷ operand_member a.step.activities a.step.event
    ∷ subject_members names a.subject
    ∷ value_member (codes "before") a.before
    ∷ value_member (codes "after") a.after
    ∷ []

-- `{"act":1,"after":3,"before":2,"column":9,"event":"add","line":7,"name":"total","place":5,"shared":0,"step":9,"unit":1}`
abbrev pub event_value : PlacesValue → Option NamesValue → Account → Data
event_value p names a = object_of (event_groups p names a)

-- the line of a step that other activities can see
abbrev pub value_if_seen : PlacesValue → Option NamesValue → Account → List ℕ
value_if_seen p names a = if is_local a.step.event then [] else json_line (event_value p names a)

-- where the log ends before the run does: `{"ended":false,"steps":15,"text":"the log ends after step 15, ..."}`
abbrev pub ending_value : World → Data
ending_value w = object_of (
    ((codes "ended", boolean false) ∷ (codes "steps", number_value w.steps) ∷ (codes "text", string (ending_words w)) ∷ []) ∷ [])

-- told behind the last step of a run in which not all have ended
abbrev pub ending_line : World → List ℕ
ending_line w = if all_ended w then [] else json_line (ending_value w)

-- a line for each step of a run that other activities can see, and the ending
abbrev pub event_values : PlacesValue → Option NamesValue → ModuleValue → List ℤ → List Entry → World → List ℕ
event_values p names m args log last =
    told_of_run (recounted_by m (λ v a. value_if_seen p names a)) m args log ++ ending_line last

-- of a source text's module, whose shared numbers have these names, and whose clocks those that they were made under
abbrev pub source_event_values : PlacesValue → List (List ℕ) → ModuleValue → List ℤ → List Entry → World → List ℕ
source_event_values p shared m args log last = event_values p (Some (names_in_run p shared m args log)) m args log last

-- of a module without a text
abbrev pub module_event_values : ModuleValue → List ℤ → List Entry → World → List ℕ
module_event_values m args log last = event_values no_text None m args log last
