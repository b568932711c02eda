-- What is told of a program by its lines and names: what `explain` says of what stands against it and of one that is accepted, and its listing. This
-- project's own.
use Rattle.std.specs.Prelude.{◌≡◌, ℕ, ℤ, nat_lt, Bool, true, false, ◌&&◌, List, [], ◌++◌, map, Option, Some, None, codes, if◌then◌else◌}
use Rattle.std.specs.Option.{option_map_or}
use Rattle.xk_types.specs.Code.{ModuleValue}
use Rattle.xk_types.specs.World.{World}
use Rattle.xk_types.specs.Bound.{steps_bound, activities_bound, clocks_bound}
use Rattle.xk_tree.specs.Tree.{TreeValue}
use Rattle.xk_tree.specs.declared.fault.FrontFault.{FrontFault}
use Rattle.xk_bounds.specs.declared.refusal.Refusal.{Refusal}
use Rattle.xk_unit_origins.specs.UnitOrigins.{UnitOrigins}
use Rattle.xk_explain.specs.declared.module_rule.ModuleRule.{ModuleRule}
use Rattle.xk_explain.specs.Messages.{module_rule}
use Rattle.xk_explain.specs.Explanations.{front_explanation, module_explanation, refusal_explanation}
use Rattle.xk_explain.specs.Notes.{NoteValue, note_lines, plain_lines}
use Rattle.xk_explain.specs.SourceExplanations.{source_explanation}
use Rattle.xk_json.specs.Objects.{json_line, text_of}
use Rattle.xk_explain_json.specs.Explanations.{accepted_value, front_value, module_value, refusal_value, source_value}
use Rattle.xk_explain_faults.specs.Faults.{faults_explanation, faults_value}
use Rattle.xk_explain_expected.specs.Notes.{expected_notes}
use Rattle.xk_explain_bounds.specs.Notes.{accepted_notes, module_notes, refusal_notes}
use Rattle.xk_hints.specs.Words.{HintValue, hints}
use Rattle.xk_listing.specs.Listing.{IsListing}
use Rattle.xk_types.specs.Schedule.{all_ended}
use Rattle.xk_show_events.specs.Endings.{ending_words}
use Rattle.xk_show_events.specs.Events.{PlacesValue, events_text, no_text}
use Rattle.xk_show_names.specs.Events.{named_events_text}
use Rattle.xk_show_json.specs.Events.{module_event_values, source_event_values}
use Rattle.xk_show_lanes.specs.Lanes.{are_lanes_whole, lanes_text}
use Rattle.xk_show_lanes.specs.NamedLanes.{named_lanes_text}
use Rattle.xk_show_lanes.specs.declared.window.Window.{Window}
use Rattle.xk_show_picture.specs.Picture.{is_drawn, named_picture_text, picture_text}
use Rattle.xk_show_page.specs.Page.{named_page_text, page_text}
use Rattle.xk_show_path.specs.declared.forms.PathForm.{PathForm}
use Rattle.xk_show_path.specs.Forms.{is_path_whole, path_text}
use Rattle.xk_path_page.specs.PathPage.{path_page_text}
use Rattle.xk_show_rounds.specs.RoundLanes.{round_lanes_text}
use Rattle.xk_races.specs.Races.{is_race_free}
use Rattle.xk_races.specs.Text.{races_text}
use Rattle.xk_show_races.specs.Text.{named_races_text}
use Rattle.xk_races_json.specs.Races.{module_races_value, source_races_value}
use Rattle.xk_show_span.specs.Text.{span_text}
use Rattle.xk_span_json.specs.Span.{span_value}
use Rattle.xk_show_where.specs.Where.{are_steps_legal, named_where_text, where_text}
use Rattle.xk_where_json.specs.Standings.{is_all_told, where_value}
use Rattle.xk_why.specs.Lines.{why_text}
use Rattle.xk_why.specs.ModuleLines.{is_told, module_why_text}
use Rattle.xk_beginnings.specs.Beginnings.{end_before, first_steps, steps_in}
use Rattle.xk_types.specs.declared.world.Entry.{Entry}
use Rattle.xk_jobs.specs.declared.job.Form.{Form}
use Rattle.xk_jobs.specs.declared.job.Form.TheVariants as form
use Rattle.xk_program.specs.declared.fault.Fault.{Fault}
use Rattle.xk_program.specs.declared.fault.Fault.TheVariants as fault
use Rattle.xk_messages.specs.Lines.{accepted_line, local_line, log_end_line}
use Rattle.xk_program.specs.Origins.{HaveOrigins, Program, IsByProgram, IsByTree}
use Rattle.xk_program.specs.Programs.{IsSource}

-- what is told: a text, and whether that is a whole answer
abbrev pub Tale : Type 0
Tale = List ℕ × Bool

-- a whole answer
abbrev pub all_told : List ℕ → Tale
all_told text = (text, true)

-- ---- what stands against a program: as a text, or as a JSON value on a line

abbrev pub module_said : Bool → List ℕ → ModuleRule → List ℕ
module_said false file r = module_explanation file r
module_said true file r = json_line (module_value file r)

abbrev pub front_said : Bool → List ℕ → List ℕ → FrontFault → List NoteValue → List ℕ
front_said false file text f notes = front_explanation file text f notes
front_said true file text f notes = json_line (front_value file text f notes)

-- of a text that spells this tree, with the faults of names behind it
abbrev pub faults_said : Bool → List ℕ → List ℕ → TreeValue → FrontFault → List ℕ
faults_said false file text tree f = faults_explanation file text tree f
faults_said true file text tree f = json_line (faults_value file text tree f)

-- with what its tree declares by the name that stands there, if the text spells one, and else with what could stand there
abbrev pub fault_said : Bool → List ℕ → List ℕ → FrontFault → Option TreeValue → List ℕ
fault_said json file text f (Some tree) = faults_said json file text tree f
fault_said json file text f None = front_said json file text f (expected_notes text f)

-- by numbers
abbrev pub plain_said : Bool → List ℕ → Refusal → List NoteValue → List ℕ
plain_said false file r notes = refusal_explanation file r notes
plain_said true file r notes = text_of (refusal_value file r notes)

-- by the lines and names of the text whose instructions have these origins
abbrev pub source_said : Bool → List ℕ → List ℕ → Refusal → List UnitOrigins → List NoteValue → List ℕ
source_said false file text r origins notes = source_explanation file text origins r notes
source_said true file text r origins notes = text_of (source_value file text origins r notes)

-- of a refused program, with what its code says of that. (Bytes that give none aren't refused so.)
abbrev pub refusal_said : Bool → List ℕ → List ℕ → Refusal → Option Program → List ℕ
refusal_said json file text r None = plain_said json file r []
refusal_said json file text r (Some (m, None)) = plain_said json file r (module_notes m r)
refusal_said json file text r (Some (m, Some origins)) = source_said json file text r origins (refusal_notes m origins r)

-- What `explain` says of a fault on standard output, beside its line: of want of memory and of devices nothing.
abbrev pub IsExplanation : Bool → Form → List ℕ → List ℕ → Fault → List ℕ → Type 0
IsExplanation json kind file bytes (fault.Text f) said = said ≡ option_map_or (module_said json file) (module_rule f) []
IsExplanation json kind file bytes (fault.Front f) said = IsByTree bytes (fault_said json file bytes f) said
IsExplanation json kind file bytes (fault.Refused r) said = IsByProgram kind bytes (refusal_said json file bytes r) said
IsExplanation json kind file bytes _ said = said ≡ []

-- ---- a program that is accepted

-- the lines of notes, which have their places in this text, if there is one
abbrev pub lines_of : Option (List ℕ) → List NoteValue → List ℕ
lines_of (Some text) notes = note_lines text notes
lines_of None notes = plain_lines notes

-- its bounds, with these notes
abbrev pub acceptance_said : Bool → List ℕ → Option (List ℕ) → ModuleValue → List NoteValue → List ℕ
acceptance_said false file text m notes = accepted_line (steps_bound m) (activities_bound m) (clocks_bound m) ++ lines_of text notes
acceptance_said true file text m notes = json_line (accepted_value file text (steps_bound m) (activities_bound m) (clocks_bound m) notes)

-- the hints on a source text are those on the tree that it spells; a module has none
abbrev pub HaveHints : Form → List ℕ → List HintValue → Type 0
HaveHints form.Module bytes hs = hs ≡ []
HaveHints form.Source bytes hs = (tree : TreeValue) × IsSource bytes tree × (hs ≡ hints tree)

-- a hint as a note
abbrev pub hint_note : HintValue → NoteValue
hint_note h = record { at = Some h.at; text = h.text; repair = None }

-- notes, and hints behind them
abbrev pub with_hints : List NoteValue → List HintValue → List NoteValue
with_hints notes hs = notes ++ map hint_note hs

-- its bounds, with what they are made of, and with these hints
abbrev pub accepted_said : Bool → List ℕ → List ℕ → ModuleValue → List HintValue → Option (List UnitOrigins) → List ℕ
accepted_said json file text m hs None = acceptance_said json file None m (with_hints (accepted_notes m []) hs)
accepted_said json file text m hs (Some origins) = acceptance_said json file (Some text) m (with_hints (accepted_notes m origins) hs)

abbrev pub acceptance_told : Bool → List ℕ → List ℕ → ModuleValue → List HintValue → Option (List UnitOrigins) → Tale
acceptance_told json file text m hs origins = all_told (accepted_said json file text m hs origins)

-- ---- listings

-- the module's instructions, and of a source text where they come from
abbrev pub IsListed : List ℕ → ModuleValue → Option (List UnitOrigins) → List ℕ → Type 0
IsListed text m (Some origins) told = IsListing text origins m told
IsListed text m None told = IsListing [] [] m told

abbrev pub IsProgramListed : Form → List ℕ → ModuleValue → List ℕ → Type 0
IsProgramListed kind bytes m told = (origins : Option (List UnitOrigins)) × HaveOrigins kind bytes origins × IsListed bytes m origins told

-- ---- runs

-- a text, and where the instructions come from; a module alone has neither
abbrev pub places_in : List ℕ → Option (List UnitOrigins) → PlacesValue
places_in text None = no_text
places_in text (Some origins) = record { text = text; origins = origins }

-- of a run which ends in this world: where not all have ended a line says so, and the answer isn't whole
abbrev pub told_so_far : World → Tale → Tale
told_so_far last told = if all_ended last then told else (told.0 ++ (ending_words last ++ codes "\n"), false)

-- the same of what says so itself
abbrev pub drawn_so_far : World → Tale → Tale
drawn_so_far last told = (told.0, told.1 && all_ended last)

-- what others see of the run of a log; of a source text by names, where its shared numbers have these, and with values
abbrev pub events_of : List ℕ → List (List ℕ) → ModuleValue → List ℤ → List Entry → Option (List UnitOrigins) → List ℕ
events_of text shared m args log None = events_text no_text m args log
events_of text shared m args log (Some origins) = named_events_text (places_in text (Some origins)) shared m args log

abbrev pub events_told : List ℕ → ModuleValue → List ℤ → List Entry → List (List ℕ) → Option (List UnitOrigins) → Tale
events_told text m args log shared origins = all_told (events_of text shared m args log origins)

abbrev pub events_so_far : List ℕ → ModuleValue → List ℤ → List Entry → World → List (List ℕ) → Option (List UnitOrigins) → Tale
events_so_far text m args log last shared origins = told_so_far last (events_told text m args log shared origins)

-- the same as JSON values, which say themselves where not all have ended
abbrev pub event_values_of : List ℕ → List (List ℕ) → ModuleValue → List ℤ → List Entry → World → Option (List UnitOrigins) → List ℕ
event_values_of text shared m args log last None = module_event_values m args log last
event_values_of text shared m args log last (Some origins) = source_event_values (places_in text (Some origins)) shared m args log last

abbrev pub event_values_so_far : List ℕ → ModuleValue → List ℤ → List Entry → World → List (List ℕ) → Option (List UnitOrigins) → Tale
event_values_so_far text m args log last shared origins = (event_values_of text shared m args log last origins, all_ended last)

-- the same, with a lane for each activity, of the steps in this window; the run ends in this world
abbrev pub lanes_of : List ℕ → List (List ℕ) → Window → ModuleValue → List Entry → World → Option (List UnitOrigins) → List ℕ
lanes_of text shared window m log last None = lanes_text no_text window m log last
lanes_of text shared window m log last (Some origins) = named_lanes_text (places_in text (Some origins)) shared window m log last

abbrev pub lanes_told : List ℕ → Window → ModuleValue → List Entry → World → List (List ℕ) → Option (List UnitOrigins) → Tale
lanes_told text window m log last shared origins = (lanes_of text shared window m log last origins, are_lanes_whole last)

abbrev pub lanes_so_far : List ℕ → Window → ModuleValue → List Entry → World → List (List ℕ) → Option (List UnitOrigins) → Tale
lanes_so_far text window m log last shared origins = told_so_far last (lanes_told text window m log last shared origins)

-- the same as an image
abbrev pub image_of : List ℕ → List (List ℕ) → Window → ModuleValue → List Entry → World → Option (List UnitOrigins) → List ℕ
image_of text shared window m log last None = picture_text no_text None window m log last
image_of text shared window m log last (Some origins) = named_picture_text (places_in text (Some origins)) shared window m log last

abbrev pub image_told : List ℕ → Window → ModuleValue → List Entry → World → List (List ℕ) → Option (List UnitOrigins) → Tale
image_told text window m log last shared origins = (image_of text shared window m log last origins, is_drawn window m log last)

abbrev pub image_so_far : List ℕ → Window → ModuleValue → List Entry → World → List (List ℕ) → Option (List UnitOrigins) → Tale
image_so_far text window m log last shared origins = drawn_so_far last (image_told text window m log last shared origins)

-- the same as a page of the file
abbrev pub page_of : List ℕ → List ℕ → List (List ℕ) → Window → ModuleValue → List Entry → World → Option (List UnitOrigins) → List ℕ
page_of file text shared window m log last None = page_text file no_text None window m log last
page_of file text shared window m log last (Some origins) = named_page_text file (places_in text (Some origins)) shared window m log last

abbrev pub page_told : List ℕ → List ℕ → Window → ModuleValue → List Entry → World → List (List ℕ) → Option (List UnitOrigins) → Tale
page_told file text window m log last shared origins = (page_of file text shared window m log last origins, is_drawn window m log last)

abbrev pub page_so_far : List ℕ → List ℕ → Window → ModuleValue → List Entry → World → List (List ℕ) → Option (List UnitOrigins) → Tale
page_so_far file text window m log last shared origins = drawn_so_far last (page_told file text window m log last shared origins)

-- a run that came to its end with a lane for each activity, as a text or as an image, with the rounds of its steps and a critical path
abbrev pub path_of : PathForm → List ℕ → List (List ℕ) → Window → ModuleValue → List Entry → World → Option (List UnitOrigins) → List ℕ
path_of form text shared window m log last None = path_text form no_text None window m log last
path_of form text shared window m log last (Some origins) =
    path_text form (places_in text (Some origins)) (Some shared) window m log last

abbrev pub path_told : PathForm → List ℕ → Window → ModuleValue → List Entry → World → List (List ℕ) → Option (List UnitOrigins) → Tale
path_told form text window m log last shared origins =
    (path_of form text shared window m log last origins, is_path_whole form window m log last)

-- a page of such a run of the file, with the rounds of its steps and a critical path
abbrev pub path_page_of : List ℕ → List ℕ → List (List ℕ) → Window → ModuleValue → List Entry → World → Option (List UnitOrigins)
    → List ℕ
path_page_of file text shared window m log last None = path_page_text file no_text None window m log last
path_page_of file text shared window m log last (Some origins) =
    path_page_text file (places_in text (Some origins)) (Some shared) window m log last

abbrev pub path_page_told : List ℕ → List ℕ → Window → ModuleValue → List Entry → World → List (List ℕ) → Option (List UnitOrigins)
    → Tale
path_page_told file text window m log last shared origins =
    (path_page_of file text shared window m log last origins, is_drawn window m log last)

-- the same by rounds: a row for each, in place of each step
abbrev pub rounds_by : List ℕ → List (List ℕ) → ModuleValue → List Entry → World → Option (List UnitOrigins) → List ℕ
rounds_by text shared m log last None = round_lanes_text no_text None m log last
rounds_by text shared m log last (Some origins) = round_lanes_text (places_in text (Some origins)) (Some shared) m log last

abbrev pub rounds_told : List ℕ → ModuleValue → List Entry → World → List (List ℕ) → Option (List UnitOrigins) → Tale
rounds_told text m log last shared origins = (rounds_by text shared m log last origins, are_lanes_whole last)

-- how long it had to take, and what takes longest, as a text, or as a JSON value on a line
abbrev pub span_by : Bool → PlacesValue → ModuleValue → List ℤ → List Entry → List ℕ
span_by false p m args log = span_text p m args log
span_by true p m args log = json_line (span_value p m args log)

abbrev pub span_told : Bool → List ℕ → ModuleValue → List ℤ → List Entry → Option (List UnitOrigins) → Tale
span_told json text m args log origins = (span_by json (places_in text origins) m args log, is_race_free m args log)

-- what a step of it rests on; of a source text by names, where its shared numbers have these, and with values
abbrev pub why_of : List ℕ → ℕ → List (List ℕ) → ModuleValue → List ℤ → List Entry → Option (List UnitOrigins) → List ℕ
why_of text step shared m args log None = module_why_text m args log step
why_of text step shared m args log (Some origins) = why_text (places_in text (Some origins)) shared m args log step

-- a step without a line among those of the run: there are fewer, or others can't see that one
abbrev pub untold_line : ℕ → List Entry → List ℕ
untold_line step log = if nat_lt (steps_in log) step then log_end_line (steps_in log) else local_line step

-- of which only that is said, and the answer isn't whole
abbrev pub untold : ℕ → List Entry → Tale
untold step log = (untold_line step log, false)

-- a step with a line is told, and what it rests on
abbrev pub why_told : List ℕ → ℕ → ModuleValue → List ℤ → List Entry → List (List ℕ) → Option (List UnitOrigins) → Tale
why_told text step m args log shared origins =
    if is_told m args log step then all_told (why_of text step shared m args log origins) else untold step log

-- the races of a module's run, as a text, or as a JSON value on a line
abbrev pub plain_races : Bool → ModuleValue → List ℤ → List Entry → List ℕ
plain_races false m args log = races_text no_text m args log
plain_races true m args log = json_line (module_races_value m args log)

-- the same of a source text by names, where its shared numbers have these, and with values
abbrev pub named_races : Bool → PlacesValue → List (List ℕ) → ModuleValue → List ℤ → List Entry → List ℕ
named_races false p shared m args log = named_races_text p shared m args log
named_races true p shared m args log = json_line (source_races_value p shared m args log)

-- the races of a run
abbrev pub races_of : Bool → List ℕ → List (List ℕ) → ModuleValue → List ℤ → List Entry → Option (List UnitOrigins) → List ℕ
races_of json text shared m args log None = plain_races json m args log
races_of json text shared m args log (Some origins) = named_races json (places_in text (Some origins)) shared m args log

abbrev pub races_told : Bool → List ℕ → ModuleValue → List ℤ → List Entry → List (List ℕ) → Option (List UnitOrigins) → Tale
races_told json text m args log shared origins = (races_of json text shared m args log origins, is_race_free m args log)

-- how things stand behind the steps of a log, as far as they can be taken; of a source text by names, where its shared numbers have these
abbrev pub standings_of : List ℕ → List (List ℕ) → ModuleValue → List ℤ → List Entry → Option (List UnitOrigins) → List ℕ
standings_of text shared m args log None = where_text no_text m args log
standings_of text shared m args log (Some origins) = named_where_text (places_in text (Some origins)) shared m args log

abbrev pub stand_told : List ℕ → ModuleValue → List ℤ → List Entry → List (List ℕ) → Option (List UnitOrigins) → Tale
stand_told text m args log shared origins = (standings_of text shared m args log origins, are_steps_legal m args log)

-- a log that ends before step n: a line says so, and the answer isn't whole
abbrev pub told_to : ℕ → List Entry → Tale → Tale
told_to n log told = if nat_lt (steps_in log) n then (told.0 ++ log_end_line (steps_in log), false) else told

-- the same behind all steps of the log, or behind the first n of them
abbrev pub lines_told : List ℕ → ModuleValue → List ℤ → Option ℕ → List Entry → List (List ℕ) → Option (List UnitOrigins) → Tale
lines_told text m args None log shared origins = stand_told text m args log shared origins
lines_told text m args (Some n) log shared origins = told_to n log (stand_told text m args (first_steps n log) shared origins)

-- The same as a JSON value on a line. Where the log ends before what was asked for, this is its last step.
abbrev pub value_of : List ℕ → List (List ℕ) → ModuleValue → List ℤ → List Entry → Option ℕ → Option (List UnitOrigins) → List ℕ
value_of text shared m args log ends None = json_line (where_value no_text [] m args log ends)
value_of text shared m args log ends (Some origins) = json_line (where_value (places_in text (Some origins)) shared m args log ends)

abbrev pub value_told : List ℕ → ModuleValue → List ℤ → List Entry → Option ℕ → List (List ℕ) → Option (List UnitOrigins) → Tale
value_told text m args log ends shared origins = (value_of text shared m args log ends origins, is_all_told m args log ends)

-- behind all steps of the log, or behind the first n of them
abbrev pub values_told : List ℕ → ModuleValue → List ℤ → Option ℕ → List Entry → List (List ℕ) → Option (List UnitOrigins) → Tale
values_told text m args None log shared origins = value_told text m args log None shared origins
values_told text m args (Some n) log shared origins = value_told text m args (first_steps n log) (end_before n log) shared origins

-- as a text, or as a JSON value
abbrev pub where_told : Bool → List ℕ → ModuleValue → List ℤ → Option ℕ → List Entry → List (List ℕ) → Option (List UnitOrigins) → Tale
where_told false text m args at log shared origins = lines_told text m args at log shared origins
where_told true text m args at log shared origins = values_told text m args at log shared origins
