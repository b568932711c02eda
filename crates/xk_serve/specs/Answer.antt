-- What the program answers: which status and texts a job and the bytes of its file may have. This project's own.
use Rattle.std.specs.Prelude.{◌≡◌, ℕ, ⊤, ◌⊎◌, ℤ, ◌||◌, Bool, true, false, List, [], Some, is_some, unwrap_or}
use Rattle.xk_types.specs.Code.{ModuleValue}
use Rattle.xk_types.specs.World.{AreArguments}
use Rattle.xk_types.specs.Acceptance.{IsAccepted}
use Rattle.xk_jobs.specs.declared.job.Command.{Command}
use Rattle.xk_jobs.specs.declared.job.Command.TheVariants as command
use Rattle.xk_jobs.specs.declared.job.Values.{Values}
use Rattle.xk_jobs.specs.declared.job.Values.TheVariants as values
use Rattle.xk_jobs.specs.declared.job.Form.{Form}
use Rattle.xk_jobs.specs.declared.job.Form.TheVariants as form
use Rattle.xk_jobs.specs.declared.job.Job.{Job}
use Rattle.xk_bounds.specs.Refusals.{Refuses}
use Rattle.xk_bounds.specs.declared.refusal.Refusal.TheVariants as refusal
use Rattle.xk_answers.specs.declared.job_result.Done.{Done}
use Rattle.xk_answers.specs.declared.picture.Picture.TheVariants as picture
use Rattle.xk_program.specs.declared.fault.Fault.{Fault}
use Rattle.xk_program.specs.declared.fault.Fault.TheVariants as fault
use Rattle.xk_outcome_lists.specs.Expected.{stray_line}
use Rattle.xk_answers.specs.Printed.{done_log, done_text, done_status}
use Rattle.xk_program.specs.Lines.{status_of}
use Rattle.xk_serve.specs.Notes.{told_of}
use Rattle.xk_program.specs.Programs.{Gives, IsNoModule, IsNoSource}
use Rattle.xk_answers.specs.Explanation.{IsExplanation}
use Rattle.xk_answers.specs.Results.{Doing, way_given, window_given, lanes_given, list_in, page_given, ComesTo, IsTelling, IsText, IsNoRun}
use Rattle.xk_answers.specs.Results.{is_of_whole, Check, Count, Explain, Compile, Listing, Run, Replay, Draw, Where, Races, Tally, Outcomes}
use Rattle.xk_answers.specs.Results.{Expected}
use Rattle.xk_answers.specs.Results.{ExpectedShown, Json, OutcomePage, OutcomesShown, RunShown, Shown}
use Rattle.xk_program.specs.Refusals.{IsMisfit}

-- whether the module is run, and main given its arguments
abbrev pub runs : Doing → Bool
runs Check = false
runs (Explain json) = false
runs Compile = false
runs Listing = false
runs _ = true

-- whether the verifier is asked
abbrev pub asks_verifier : Doing → Bool
asks_verifier Compile = false
asks_verifier Listing = false
asks_verifier _ = true

-- whether a log is read
abbrev pub reads_log : Doing → Bool
reads_log Replay = true
reads_log (Draw picture) = true
reads_log (Where json at) = true
reads_log _ = false

-- whether outcomes are held against a list
abbrev pub is_held : Shown → Bool
is_held (ExpectedShown sets limit) = true
is_held _ = false

-- whether a list of outcomes is read
abbrev pub reads_list : Doing → Bool
reads_list (Expected sets limit) = true
reads_list (Json s) = is_held s
reads_list _ = false

-- whether one of these is, beside the program
abbrev pub reads_more : Doing → Bool
reads_more what = reads_log what || reads_list what

-- whether each step of the log that is read has to be one that can be taken
abbrev pub wants_legal : Doing → Bool
wants_legal (Where json at) = false
wants_legal _ = true

-- whether that log has to be one of a whole run
abbrev pub wants_whole : Doing → Bool
wants_whole (Where json at) = false
wants_whole (Draw picture) = is_of_whole picture
wants_whole _ = true

-- races, as a text or as a JSON value, are those of the run that a log has, if one is given, and else of the run in the order `first`
abbrev pub races_by : Bool → Bool → Doing
races_by json true = Draw (picture.Races json)
races_by json false = Races json

-- what is told as JSON: a value for each step of the run that a log has, or one value
abbrev pub values_doing : Values → Doing
values_doing (values.Run given path) = Json (RunShown (way_given given) (is_some path))
values_doing (values.Events log) = Draw picture.EventValues
values_doing (values.Races path) = races_by true (is_some path)
values_doing (values.Where log at) = Where true at
values_doing (values.Span log) = Draw (picture.Span true)
values_doing (values.Outcomes limit pick path sets) = Json (OutcomesShown sets limit (unwrap_or pick 1) (is_some path))
values_doing (values.Expected list limit sets) = Json (ExpectedShown sets limit)

-- a log is kept where there is a path for it
abbrev pub doing_of : Command → Doing
doing_of command.Check = Check
doing_of (command.Explain json) = Explain json
doing_of command.Listing = Listing
doing_of command.Compile = Compile
doing_of (command.Run given path) = Run (way_given given) (is_some path)
doing_of (command.Replay log) = Replay
doing_of (command.Chart log) = Draw picture.Chart
doing_of (command.Events log) = Draw picture.Events
doing_of (command.Lanes log from to svg path) = Draw (lanes_given from to svg path)
doing_of (command.Page log from to path) = Draw (page_given from to path)
doing_of (command.OutcomePage pick limit from to) = OutcomePage (window_given from to) limit pick
doing_of (command.Where log at) = Where false at
doing_of (command.Rounds log) = Draw picture.Rounds
doing_of (command.Span log) = Draw (picture.Span false)
doing_of (command.Why log step) = Draw (picture.Why step)
doing_of (command.Races path) = races_by false (is_some path)
doing_of (command.Tally seed runs) = Tally seed runs
doing_of (command.Outcomes limit pick path sets) = Outcomes sets limit (unwrap_or pick 1) (is_some path)
doing_of (command.Count limit sets) = Count sets limit
doing_of (command.Expected list limit sets) = Expected sets limit
doing_of (command.Json v) = values_doing v

-- what is to be done with a file, what it is called, what stands in it, and what main is given where it is run
pub record Task : Type 0 where
  pub doing : Doing
  pub file : List ℕ
  pub form : Form
  pub arguments : List ℤ

abbrev pub task_of : Job → Task
task_of job = record { doing = doing_of job.command; file = job.file.now; form = job.form; arguments = job.arguments.items }

-- the bytes give a module, and the task on it, and on the log, comes to that, or tells that of it
pub record Succeeds (t : Task) (bytes logged : List ℕ) (d : Done) : Type 0 where
  pub of : ModuleValue
  pub given : Gives t.form bytes of
  pub done : ComesTo t.doing of t.arguments logged d ⊎ IsText (IsTelling t.doing t.form t.file bytes of t.arguments logged) d

-- a module that is accepted is given, and this holds of it
abbrev pub GivesAccepted : Task → List ℕ → (ModuleValue → Type 0) → Type 0
GivesAccepted t bytes P = (m : ModuleValue) × Gives t.form bytes m × IsAccepted m × P m

-- what stands against a log that is read: the module is accepted, main takes as many numbers as it is given, and the log is none of such a run
abbrev pub FailsByLog : Task → List ℕ → List ℕ → Fault → Type 0
FailsByLog t bytes logged f =
    (reads_log t.doing ≡ true) × GivesAccepted t bytes (λ m. AreArguments m t.arguments × IsNoRun m t.arguments logged f)

-- what stands against a list that is read: the module is accepted, main takes as many numbers as it is given, and this line may not stand in a list
abbrev pub FailsByList : Task → List ℕ → List ℕ → ℕ → Type 0
FailsByList t bytes logged line =
    (reads_list t.doing ≡ true) × GivesAccepted t bytes (λ m. AreArguments m t.arguments × (stray_line (list_in logged) ≡ Some line))

-- The fault is one of the bytes, or of main's arguments where the module is run, or of the bytes of a log or a list where one is read, or want of
-- memory, of which nothing is claimed. `compile` and `listing` ask nothing of the verifier. The arguments are looked at only where the module is accepted,
-- and a log only where they are as many as main takes. `where` takes any log, and some pictures one that stops before the run does.
abbrev pub FailsBy : Task → List ℕ → List ℕ → Fault → Type 0
FailsBy t bytes logged (fault.Text f) = (t.form ≡ form.Module) × IsNoModule bytes f
FailsBy t bytes logged (fault.Front f) = (t.form ≡ form.Source) × IsNoSource bytes f
FailsBy t bytes logged (fault.Refused refusal.OutOfMemory) = ⊥
FailsBy t bytes logged (fault.Refused r) = (asks_verifier t.doing ≡ true) × ((m : ModuleValue) × Gives t.form bytes m × Refuses m r)
FailsBy t bytes logged (fault.Arguments wants has) = (runs t.doing ≡ true) × GivesAccepted t bytes (λ m. IsMisfit m t.arguments wants has)
FailsBy t bytes logged (fault.Grammar line) = FailsByLog t bytes logged (fault.Grammar line)
FailsBy t bytes logged fault.Truncated = FailsByLog t bytes logged fault.Truncated
FailsBy t bytes logged (fault.NotEnabled i) = (wants_legal t.doing ≡ true) × FailsByLog t bytes logged (fault.NotEnabled i)
FailsBy t bytes logged fault.NotEnded = (wants_whole t.doing ≡ true) × FailsByLog t bytes logged fault.NotEnded
FailsBy t bytes logged (fault.NoOutcome line) = FailsByList t bytes logged line
FailsBy t bytes logged fault.OutOfMemory = ⊤
FailsBy t bytes logged fault.Device = ⊥

-- What a task says of a fault on standard output: only `explain` says more than the line.
abbrev pub IsSaidBy : Doing → Form → List ℕ → List ℕ → Fault → List ℕ → Type 0
IsSaidBy (Explain json) kind file bytes f said = IsExplanation json kind file bytes f said
IsSaidBy _ kind file bytes f said = said ≡ []

abbrev pub IsSaidOf : Task → List ℕ → Fault → List ℕ → Type 0
IsSaidOf t bytes f said = IsSaidBy t.doing t.form t.file bytes f said

-- a status, and what goes to standard output, to standard error and to the log
pub record Reply : Type 0 where
  pub status : ℕ
  pub out : List ℕ
  pub err : List ℕ
  pub log : List ℕ

abbrev pub done_reply : Done → Reply
done_reply d = record { status = done_status d; out = done_text d; err = []; log = done_log d }

-- of a fault of which this is said on standard output, of a task on these bytes
abbrev pub fault_reply : Task → List ℕ → List ℕ → Fault → Reply
fault_reply t bytes said f = record { status = status_of f; out = said; err = told_of t.doing bytes f; log = [] }

-- the program may answer so
abbrev pub Answers : Task → List ℕ → List ℕ → Reply → Type 0
Answers t bytes logged r =
    ((d : Done) × Succeeds t bytes logged d × (r ≡ done_reply d))
    ⊎ ((f : Fault) × FailsBy t bytes logged f × ((said : List ℕ) × IsSaidOf t bytes f said × (r ≡ fault_reply t bytes said f)))
