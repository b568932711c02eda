-- What a job on a module comes to, or tells of it: the numbers and the log of a run, what a module can print, pictures of a run. This project's own.
use Rattle.std.specs.Prelude.{◌≡◌, ℕ, ⊤, ℤ, ◌-◌, ◌&&◌, not, Bool, true, false, List, ◌++◌, length, map, take, slice_get, Option, Some}
use Rattle.std.specs.Prelude.{None, is_some}
use Rattle.std.specs.Prelude.{option_map, unwrap_or, string_bytes, codes, decimal, if◌then◌else◌}
use Rattle.serde_json.specs.Written.{compact_text}
use Rattle.xk_types.specs.Code.{ModuleValue}
use Rattle.xk_unit_origins.specs.UnitOrigins.{UnitOrigins}
use Rattle.xk_types.specs.World.{World, AreArguments}
use Rattle.xk_types.specs.Schedule.{all_ended}
use Rattle.xk_types.specs.Bound.{steps_bound, activities_bound, clocks_bound}
use Rattle.xk_types.specs.Acceptance.{IsAccepted}
use Rattle.xk_jobs.specs.declared.job.Drive.{Drive}
use Rattle.xk_jobs.specs.declared.job.Form.{Form}
use Rattle.xk_jobs.specs.declared.job.Order.TheVariants as order
use Rattle.xk_jobs.specs.Tasks.{By, Greedy, In, Way, way_value}
use Rattle.xk_module.specs.ModuleText.{module_value}
use Rattle.xk_answers.specs.declared.job_result.Done.{Done}
use Rattle.xk_answers.specs.declared.job_result.Done.TheVariants as done
use Rattle.xk_show_lanes.specs.declared.window.Window.{Window}
use Rattle.xk_show_lanes.specs.Lanes.{whole_run}
use Rattle.xk_show_path.specs.Forms.{form_of}
use Rattle.xk_answers.specs.declared.picture.Picture.{Picture}
use Rattle.xk_answers.specs.declared.picture.Picture.TheVariants as picture
use Rattle.xk_program.specs.declared.fault.Fault.{Fault}
use Rattle.xk_program.specs.declared.fault.Fault.TheVariants as fault
use Rattle.xk_types.specs.declared.world.Entry.{Entry}
use Rattle.xk_log.specs.Verdicts.{IsTruncated, IsWrongAt, Says, Whole}
use Rattle.xk_replay.specs.Chart.{chart_text}
use Rattle.xk_outcomes.specs.Sets.{AreAllAs, AreDistinctAs, AreShownAs}
use Rattle.xk_outcomes.specs.declared.listing.Outcome.{Outcome}
use Rattle.xk_outcomes.specs.LoneOutcomes.{IsOneOfManyAs}
use Rattle.xk_outcomes.specs.Numbering.{AreNumberedAs}
use Rattle.xk_outcomes.specs.PlainRuns.{ArePlainListedAs}
use Rattle.xk_outcome_lists.specs.Text.{completeness, outcomes_text}
use Rattle.xk_outcomes.specs.declared.all_outcomes.Limit.{Limit}
use Rattle.xk_outcomes.specs.Limits.{GoesFar, limit_of}
use Rattle.xk_outcome_lists.specs.Expected.{AreExpected}
use Rattle.xk_outcome_lists.specs.declared.holding.Verdict.{Verdict}
use Rattle.xk_outcome_lists.specs.declared.holding.Verdict.TheVariants as verdict
use Rattle.xk_outcome_count.specs.Counts.{AreAsMany, AreAtLeast, GoesAsFar, IsCutOff}
use Rattle.xk_outcome_count.specs.Text.{count_line}
use Rattle.xk_outcome_count.specs.declared.counting.Counted.{Counted}
use Rattle.xk_json.specs.Objects.{json_line}
use Rattle.xk_show_json.specs.Outcomes.{held_value, outcomes_value}
use Rattle.xk_show_json.specs.Runs.{run_value}
use Rattle.xk_random.specs.Runs.{IsTallyText}
use Rattle.xk_replay.specs.Replay.{IsLegal, IsStoppedAt, IsUnfinished}
use Rattle.xk_answers.specs.OrderedRun.{IsFinished, IsGreedyRun, IsLoggedGreedyRun, IsLoggedRun, IsOrderedRun, IsReplay, IsSomeRun}
use Rattle.xk_program.specs.Origins.{IsByNames, IsByOrigins}
use Rattle.xk_hints.specs.Words.{HintValue}
use Rattle.xk_answers.specs.Explanation.{HaveHints, IsProgramListed, Tale, acceptance_told, all_told, event_values_so_far}
use Rattle.xk_answers.specs.Explanation.{events_so_far, image_so_far}
use Rattle.xk_answers.specs.Explanation.{lanes_so_far, page_so_far, path_page_told, path_told, races_told, rounds_told, span_told}
use Rattle.xk_answers.specs.Explanation.{where_told, why_told}

-- what is told as one JSON value: a run in an order, by rounds, or by workers, whose log is kept or not; outcomes, of which so many are
-- looked for, and of one the log is kept or not; or what outcomes say of a list
pub data Shown : Type 0 where
  RunShown : Way → Bool → Shown
  OutcomesShown : Bool → Option ℕ → ℕ → Bool → Shown
  ExpectedShown : Bool → Option ℕ → Shown

-- what is to be done with a module; what is explained is a JSON value or not, and so are races, and how things stand; a run is in an order, by rounds, or by workers, and has its log kept or not; some
-- picture is drawn of one; it is told how things stand behind a log, or behind so many of its steps, which races the run in the order `first` has, or how often so many runs by chance,
-- from this seed on, print what; of outcomes, as lists of numbers or without their order, so many are looked for, and of one, counted from 1, the log
-- is kept or not, or they are counted, or held against a list, or of one the page of its run is made; or some of this is told as one JSON value
pub data Doing : Type 0 where
  Check : Doing
  Explain : Bool → Doing
  Compile : Doing
  Listing : Doing
  Run : Way → Bool → Doing
  Replay : Doing
  Draw : Picture → Doing
  Where : Bool → Option ℕ → Doing
  Races : Bool → Doing
  Tally : ℕ → ℕ → Doing
  Outcomes : Bool → Option ℕ → ℕ → Bool → Doing
  Count : Bool → Option ℕ → Doing
  Expected : Bool → Option ℕ → Doing
  OutcomePage : Window → Option ℕ → ℕ → Doing
  Json : Shown → Doing

-- a run is in the order `first` where neither an order nor workers were given
abbrev pub way_given : Option Drive → Way
way_given given = unwrap_or (option_map way_value given) (In order.First)

-- the steps that are drawn: from the first to the last of the run, where nothing else is said
abbrev pub window_given : Option ℕ → Option ℕ → Window
window_given from to = record { first = unwrap_or from whole_run.first; last = unwrap_or to whole_run.last }

-- as a text or as an image, with a critical path or without
abbrev pub lanes_given : Option ℕ → Option ℕ → Bool → Bool → Picture
lanes_given from to svg path =
    if path then picture.Path (form_of svg) (window_given from to)
    else (if svg then picture.Image (window_given from to) else picture.Lanes (window_given from to))

-- the same as a page
abbrev pub page_given : Option ℕ → Option ℕ → Bool → Picture
page_given from to path = if path then picture.PathPage (window_given from to) else picture.Page (window_given from to)

-- these bytes are the text of a log of these entries
abbrev pub IsLogText : List ℕ → List Entry → Type 0
IsLogText bytes es = Says (Whole es) bytes

-- a whole run with these arguments again, by the log in these bytes
abbrev pub Replays : ModuleValue → List ℤ → List ℕ → List ℤ → ℕ → Type 0
Replays m args logged numbers steps = (es : List Entry) × IsLogText logged es × IsReplay m args es numbers steps

-- This holds of a legal run with these arguments, by the log in these bytes, and of the world in which it ends. Where it has to be whole,
-- all have ended there.
abbrev pub OfRun : Bool → ModuleValue → List ℤ → List ℕ → (List Entry → World → Type 0) → Type 0
OfRun whole m args logged P =
    (es : List Entry) × IsLogText logged es × (legal : IsLegal m args es) × (whole ≡ true → all_ended legal.last ≡ true) × P es legal.last

-- the outcome whose log is kept, counted from 1
abbrev pub outcome_at : ℕ → List Outcome → Option Outcome
outcome_at pick list = slice_get list (pick - 1)

-- the log that is kept: of that outcome, if there is one
abbrev pub kept_log : Bool → ℕ → List Outcome → Option (List Entry)
kept_log true pick list = option_map (λ x. x.log.items) (outcome_at pick list)
kept_log false pick list = None

-- a log is to be kept, and there is no such outcome
abbrev pub lacks_log : Bool → ℕ → List Outcome → Bool
lacks_log keeps pick list = keeps && not (is_some (kept_log keeps pick list))

-- What a module can print that is given these arguments, as lists of numbers or without their order. The answer is whole where they are all, and the log
-- that is to be kept is there. They are looked for up to this limit.
pub record AreOutcomes (m : ModuleValue) (args : List ℤ) (sets : Bool) (limit : Limit) (pick : ℕ) (keeps : Bool) (text : List ℕ) (whole : Bool) (log : Option (List Entry)) : Type 0 where
  pub taken : AreArguments m args
  pub list : List Outcome
  pub complete : Bool
  pub shown : AreShownAs sets m args list
  pub distinct : AreDistinctAs sets list
  pub all : complete ≡ true → AreAllAs sets m args list
  pub lone : complete ≡ false → IsOneOfManyAs sets m args
  pub plain : complete ≡ false → ArePlainListedAs sets m args list
  pub far : GoesFar m args sets limit list complete
  pub order : AreNumberedAs sets m args limit.entries list far.entries
  pub text_is : text ≡ outcomes_text list complete
  pub whole_is : whole ≡ (complete && not (lacks_log keeps pick list))
  pub log_is : log ≡ kept_log keeps pick list

-- that is what it comes to
abbrev pub IsFoundOut : ModuleValue → List ℤ → Bool → Limit → ℕ → Bool → Done → Type 0
IsFoundOut m args sets limit pick keeps (done.Outcomes text whole log) =
    AreOutcomes m args sets limit pick keeps text.items whole (option_map (λ es. es.items) log)
IsFoundOut m args sets limit pick keeps _ = ⊥

-- So many outcomes a module has that is given these arguments, as lists of numbers or without their order. The answer is whole where there are no more.
-- They are looked for up to this limit.
pub record AreCounted (m : ModuleValue) (args : List ℤ) (sets : Bool) (limit : Limit) (text : List ℕ) (whole : Bool) (log : Option (List Entry)) : Type 0 where
  pub taken : AreArguments m args
  pub counted : Counted
  pub least : AreAtLeast sets m args counted.count
  pub exact : counted.complete ≡ true → AreAsMany sets m args counted.count
  pub lone : counted.complete ≡ false → IsOneOfManyAs sets m args
  pub far : counted.complete ≡ false → GoesAsFar sets m args limit counted.count
  pub cut : counted.complete ≡ false → sets ≡ false → IsCutOff m args limit.entries counted.count
  pub text_is : text ≡ count_line counted
  pub whole_is : whole ≡ counted.complete
  pub log_is : log ≡ None

-- that is what it comes to
abbrev pub IsCountedOut : ModuleValue → List ℤ → Bool → Limit → Done → Type 0
IsCountedOut m args sets limit (done.Outcomes text whole log) = AreCounted m args sets limit text.items whole (option_map (λ es. es.items) log)
IsCountedOut m args sets limit _ = ⊥

-- how many bytes of a list are read at most
abbrev pub longest_list : ℕ
longest_list = 100_000_000

-- the list in the bytes of its file
abbrev pub list_in : List ℕ → List ℕ
list_in bytes = take longest_list bytes

-- What a module can print that is given these arguments is held against the list in these bytes, and this is what that says of the list.
abbrev pub IsHeldOut : ModuleValue → List ℤ → Bool → Limit → List ℕ → Done → Type 0
IsHeldOut m args sets limit bytes (done.Held text found) = AreArguments m args × AreExpected m args sets limit (list_in bytes) text.items found
IsHeldOut m args sets limit bytes _ = ⊥

-- ---- told as one JSON value

-- what each outcome prints
abbrev pub lists_of : List Outcome → List (List ℤ)
lists_of list = map (λ x. x.numbers.items) list

-- what outcomes say of a list, in a word
abbrev pub verdict_name : Verdict → List ℕ
verdict_name verdict.Complete = codes "complete"
verdict_name verdict.Undecided = codes "undecided"
verdict_name verdict.Refuted = codes "refuted"

-- the run came to its end as it is to be driven, and its log is kept or not
pub record IsRunShown (way : Way) (keeps : Bool) (m : ModuleValue) (args : List ℤ) (text : List ℕ) (whole : Bool)
    (log : Option (List Entry)) : Type 0 where
  pub numbers : List ℤ
  pub steps : ℕ
  pub rounds : Option ℕ
  pub run : IsFinished way keeps m args numbers steps rounds log
  pub text_is : text ≡ json_line (run_value numbers steps rounds)
  pub whole_is : whole ≡ true

-- what a module can print, as it is found where it is told as lines
pub record AreOutcomesShown (m : ModuleValue) (args : List ℤ) (sets : Bool) (limit : Limit) (pick : ℕ) (keeps : Bool) (text : List ℕ)
    (whole : Bool) (log : Option (List Entry)) : Type 0 where
  pub lines : List ℕ
  pub found : AreOutcomes m args sets limit pick keeps lines whole log
  pub text_is : text ≡ json_line (outcomes_value (lists_of found.list) found.complete)

-- what that says of the list in these bytes, as it is told as a line
pub record AreExpectedShown (m : ModuleValue) (args : List ℤ) (sets : Bool) (limit : Limit) (bytes text : List ℕ) (found : Verdict)
    : Type 0 where
  pub line : List ℕ
  pub held : AreExpected m args sets limit (list_in bytes) line found
  pub text_is : text ≡ json_line (held_value line (verdict_name found))

-- that is what it comes to
abbrev pub IsRunTold : Way → Bool → ModuleValue → List ℤ → Done → Type 0
IsRunTold way keeps m args (done.Outcomes text whole log) = IsRunShown way keeps m args text.items whole (option_map (λ es. es.items) log)
IsRunTold way keeps m args _ = ⊥

abbrev pub IsFoundTold : ModuleValue → List ℤ → Bool → Limit → ℕ → Bool → Done → Type 0
IsFoundTold m args sets limit pick keeps (done.Outcomes text whole log) =
    AreOutcomesShown m args sets limit pick keeps text.items whole (option_map (λ es. es.items) log)
IsFoundTold m args sets limit pick keeps _ = ⊥

abbrev pub IsHeldTold : ModuleValue → List ℤ → Bool → Limit → List ℕ → Done → Type 0
IsHeldTold m args sets limit bytes (done.Held text found) = AreArguments m args × AreExpectedShown m args sets limit bytes text.items found
IsHeldTold m args sets limit bytes _ = ⊥

abbrev pub IsShown : Shown → ModuleValue → List ℤ → List ℕ → Done → Type 0
IsShown (RunShown way keeps) m args logged d = IsRunTold way keeps m args d
IsShown (OutcomesShown sets limit pick keeps) m args logged d =
    IsFoundTold m args sets (limit_of limit (activities_bound m)) pick keeps d
IsShown (ExpectedShown sets limit) m args logged d = IsHeldTold m args sets (limit_of limit (activities_bound m)) logged d

-- What is to be done with a module, whose main is given these arguments where it is run, and with the bytes of a log or a list where one is read, comes
-- to this: for `compile` the text of the module; where the module is accepted, for `check` its bounds, for `run` its run in the order, or
-- by rounds, or, by workers, some run of it, for `replay` the run that the log has, for `outcomes` what it can print; some of it as a JSON value.
abbrev pub ComesTo : Doing → ModuleValue → List ℤ → List ℕ → Done → Type 0
ComesTo Compile m args logged (done.Compiled text) = string_bytes text ≡ compact_text (module_value m)
ComesTo Check m args logged (done.Accepted steps activities clocks) =
    IsAccepted m × (steps ≡ steps_bound m) × (activities ≡ activities_bound m) × (clocks ≡ clocks_bound m)
ComesTo (Run (In o) false) m args logged (done.Ended numbers steps None None) = IsAccepted m × IsOrderedRun o m args numbers.items steps
ComesTo (Run (In o) true) m args logged (done.Ended numbers steps None (Some log)) =
    IsAccepted m × IsLoggedRun o m args numbers.items steps log.items
ComesTo (Run (Greedy p) false) m args logged (done.Ended numbers steps (Some rounds) None) =
    IsAccepted m × IsGreedyRun p m args numbers.items steps rounds
ComesTo (Run (Greedy p) true) m args logged (done.Ended numbers steps (Some rounds) (Some log)) =
    IsAccepted m × IsLoggedGreedyRun p m args numbers.items steps rounds log.items
ComesTo (Run (By n) false) m args logged (done.Ended numbers steps None None) = IsAccepted m × IsSomeRun m args numbers.items steps
ComesTo (Run (By n) true) m args logged (done.Ended numbers steps None (Some log)) =
    IsAccepted m × IsReplay m args log.items numbers.items steps
ComesTo Replay m args logged (done.Ended numbers steps None None) = IsAccepted m × Replays m args logged numbers.items steps
ComesTo (Outcomes sets limit pick keeps) m args logged d = IsAccepted m × IsFoundOut m args sets (limit_of limit (activities_bound m)) pick keeps d
ComesTo (Count sets limit) m args logged d = IsAccepted m × IsCountedOut m args sets (limit_of limit (activities_bound m)) d
ComesTo (Expected sets limit) m args logged d = IsAccepted m × IsHeldOut m args sets (limit_of limit (activities_bound m)) logged d
ComesTo (Json s) m args logged d = IsAccepted m × IsShown s m args logged d
ComesTo _ m args logged _ = ⊥

-- What is told of a run of the module that the bytes give, by their lines where they are a source text: its chart; by their names, too,
-- what others see of its steps, also as JSON values, the same with a lane for each activity, also as an image, with a critical path, by
-- rounds, or as a page, with a critical path or without, its races, and what a step rests on; or how long it had to take.
abbrev pub IsPicture : Picture → Form → List ℕ → List ℕ → ModuleValue → List ℤ → List Entry → World → Tale → Type 0
IsPicture picture.Chart kind file bytes m args es last told = told ≡ all_told (chart_text m args es)
IsPicture picture.Events kind file bytes m args es last told = IsByNames kind bytes (events_so_far bytes m args es last) told
IsPicture picture.EventValues kind file bytes m args es last told = IsByNames kind bytes (event_values_so_far bytes m args es last) told
IsPicture (picture.Lanes window) kind file bytes m args es last told = IsByNames kind bytes (lanes_so_far bytes window m es last) told
IsPicture (picture.Image window) kind file bytes m args es last told = IsByNames kind bytes (image_so_far bytes window m es last) told
IsPicture (picture.Path form window) kind file bytes m args es last told = IsByNames kind bytes (path_told form bytes window m es last) told
IsPicture picture.Rounds kind file bytes m args es last told = IsByNames kind bytes (rounds_told bytes m es last) told
IsPicture (picture.Page window) kind file bytes m args es last told = IsByNames kind bytes (page_so_far file bytes window m es last) told
IsPicture (picture.PathPage window) kind file bytes m args es last told =
    IsByNames kind bytes (path_page_told file bytes window m es last) told
IsPicture (picture.Races json) kind file bytes m args es last told = IsByNames kind bytes (races_told json bytes m args es) told
IsPicture (picture.Span json) kind file bytes m args es last told = IsByOrigins kind bytes (span_told json bytes m args es) told
IsPicture (picture.Why step) kind file bytes m args es last told = IsByNames kind bytes (why_told bytes step m args es) told

-- whether it is told by the lines of a source text
abbrev pub shows_origins : Picture → Bool
shows_origins picture.Chart = false
shows_origins _ = true

-- whether it is one of whole runs alone; others are drawn of a run, too, in which not all have ended
abbrev pub is_of_whole : Picture → Bool
is_of_whole picture.Events = false
is_of_whole picture.EventValues = false
is_of_whole (picture.Lanes window) = false
is_of_whole (picture.Image window) = false
is_of_whole (picture.Page window) = false
is_of_whole _ = true

-- what is told, where the instructions have these origins in the file's text, and shared numbers these names
abbrev pub picture_told : Picture → List ℕ → List ℕ → List (List ℕ) → ModuleValue → List ℤ → List Entry → World
    → Option (List UnitOrigins) → Tale
picture_told picture.Chart file bytes shared m args es last origins = all_told (chart_text m args es)
picture_told picture.Events file bytes shared m args es last origins = events_so_far bytes m args es last shared origins
picture_told picture.EventValues file bytes shared m args es last origins = event_values_so_far bytes m args es last shared origins
picture_told (picture.Lanes window) file bytes shared m args es last origins = lanes_so_far bytes window m es last shared origins
picture_told (picture.Image window) file bytes shared m args es last origins = image_so_far bytes window m es last shared origins
picture_told (picture.Path form window) file bytes shared m args es last origins = path_told form bytes window m es last shared origins
picture_told picture.Rounds file bytes shared m args es last origins = rounds_told bytes m es last shared origins
picture_told (picture.Page window) file bytes shared m args es last origins = page_so_far file bytes window m es last shared origins
picture_told (picture.PathPage window) file bytes shared m args es last origins = path_page_told file bytes window m es last shared origins
picture_told (picture.Races json) file bytes shared m args es last origins = races_told json bytes m args es shared origins
picture_told (picture.Span json) file bytes shared m args es last origins = span_told json bytes m args es origins
picture_told (picture.Why step) file bytes shared m args es last origins = why_told bytes step m args es shared origins

-- Where things stand behind the steps of a log, or behind so many, is told by the lines and names of a source text. The log need not be
-- that of a whole run.
abbrev pub IsWhereabouts : Bool → Option ℕ → Form → List ℕ → ModuleValue → List ℤ → List ℕ → Tale → Type 0
IsWhereabouts json at kind bytes m args logged told =
    AreArguments m args × ((es : List Entry) × IsLogText logged es × IsByNames kind bytes (where_told json bytes m args at es) told)

-- the races of the run in the order `first` are told
abbrev pub AreFirstRaces : Bool → Form → List ℕ → ModuleValue → List ℤ → Tale → Type 0
AreFirstRaces json kind bytes m args told = (numbers : List ℤ) × (steps : ℕ) × (es : List Entry) × IsLoggedRun order.First m args numbers steps es
    × IsByNames kind bytes (races_told json bytes m args es) told

-- What a module can print is looked for up to this limit, and this is the log of the outcome of a number, if it is there; so many outcomes are, which
-- are all or not.
pub record IsPicked (m : ModuleValue) (args : List ℤ) (limit : Limit) (pick count : ℕ) (complete : Bool) (log : Option (List Entry)) : Type 0 where
  pub text : List ℕ
  pub whole : Bool
  pub found : AreOutcomes m args false limit pick true text whole log
  pub count_is : count ≡ length found.list
  pub complete_is : complete ≡ found.complete

-- the page of the run by this log is told, which is legal, and in which all have ended
abbrev pub IsPageOf : Window → Form → List ℕ → List ℕ → ModuleValue → List ℤ → List Entry → Tale → Type 0
IsPageOf window kind file bytes m args es told = (legal : IsLegal m args es) × (all_ended legal.last ≡ true)
    × IsPicture (picture.Page window) kind file bytes m args es legal.last told

-- there is no outcome of this number: `no outcome 5: outcomes 2 complete`; the answer isn't whole
abbrev pub none_line : ℕ → ℕ → Bool → List ℕ
none_line pick count complete = codes "no outcome " ++ (decimal pick ++ (codes ": outcomes " ++ (decimal count ++ completeness complete)))

abbrev pub none_told : ℕ → ℕ → Bool → Tale
none_told pick count complete = (none_line pick count complete, false)

-- the page of the run by the log that was picked is told, or that there is none
abbrev pub IsPickedTold : Window → ℕ → ℕ → Bool → Form → List ℕ → List ℕ → ModuleValue → List ℤ → Option (List Entry) → Tale → Type 0
IsPickedTold window pick count complete kind file bytes m args (Some es) told = IsPageOf window kind file bytes m args es told
IsPickedTold window pick count complete kind file bytes m args None told = told ≡ none_told pick count complete

-- The page of a run with the outcome of this number is told: by the log that `outcomes` may write of it, with the same limit.
abbrev pub IsOutcomePage : Window → Limit → ℕ → Form → List ℕ → List ℕ → ModuleValue → List ℤ → Tale → Type 0
IsOutcomePage window limit pick kind file bytes m args told = (count : ℕ) × (complete : Bool) × (log : Option (List Entry))
    × IsPicked m args limit pick count complete log × IsPickedTold window pick count complete kind file bytes m args log told

-- so many runs by chance, from this seed on, are told as a tally
abbrev pub IsTallied : ModuleValue → List ℤ → ℕ → ℕ → Tale → Type 0
IsTallied m args seed runs told = IsTallyText m args seed runs told.0 × (told.1 ≡ true)

-- What is told of the module that the bytes give, by their lines and names where they are a source text: for `explain`, where the module is accepted,
-- its bounds and hints, and for `listing` its instructions; for all others, where it is accepted, the run that the log has, the runs in their orders, or
-- a run with an outcome.
abbrev pub IsTelling : Doing → Form → List ℕ → List ℕ → ModuleValue → List ℤ → List ℕ → Tale → Type 0
IsTelling (Explain json) kind file bytes m args logged told =
    IsAccepted m × ((hs : List HintValue) × HaveHints kind bytes hs × IsByOrigins kind bytes (acceptance_told json file bytes m hs) told)
IsTelling Listing kind file bytes m args logged told = IsProgramListed kind bytes m told.0 × (told.1 ≡ true)
IsTelling (Draw picture) kind file bytes m args logged told =
    IsAccepted m × OfRun (is_of_whole picture) m args logged (λ es last. IsPicture picture kind file bytes m args es last told)
IsTelling (Where json at) kind file bytes m args logged told = IsAccepted m × IsWhereabouts json at kind bytes m args logged told
IsTelling (Races json) kind file bytes m args logged told = IsAccepted m × AreFirstRaces json kind bytes m args told
IsTelling (Tally seed runs) kind file bytes m args logged told = IsAccepted m × AreArguments m args × IsTallied m args seed runs told
IsTelling (OutcomePage window limit pick) kind file bytes m args logged told =
    IsAccepted m × IsOutcomePage window (limit_of limit (activities_bound m)) pick kind file bytes m args told
IsTelling _ kind file bytes m args logged told = ⊥

-- it is a text of which this holds
abbrev pub IsText : (Tale → Type 0) → Done → Type 0
IsText P (done.Told text whole) = P (text.items, whole)
IsText P _ = ⊥

-- What stands against a log of a run of the module with these arguments. Of want of memory nothing is claimed.
abbrev pub IsNoRun : ModuleValue → List ℤ → List ℕ → Fault → Type 0
IsNoRun m args logged (fault.Grammar line) = IsWrongAt logged line
IsNoRun m args logged fault.Truncated = IsTruncated logged
IsNoRun m args logged (fault.NotEnabled i) = (es : List Entry) × IsLogText logged es × IsStoppedAt m args es i
IsNoRun m args logged fault.NotEnded = (es : List Entry) × IsLogText logged es × IsUnfinished m args es
IsNoRun m args logged fault.OutOfMemory = ⊤
IsNoRun m args logged _ = ⊥
