-- What the program does with what its words ask for, on open devices: a job is served, and a run by hand is played. This project's own.
use Rattle.std.specs.Prelude.{◌≡◌, ◌≢◌, ℕ, ◌⊎◌, Bool, List, [], ◌++◌, codes, true, false, Option, None, Some, Result}
use Rattle.std.specs.Prelude.{Ok, Err, IfSome, is_some, option_map, if◌then◌else◌}
use Rattle.std.specs.Io.KnownBytes.{Appends}
use Rattle.std.specs.declared.io.ErrorKind.{ErrorKind}
use Rattle.std.specs.declared.io.ErrorKind.TheVariants as kind
use Rattle.xk_types.specs.Device.{Rose}
use Rattle.xk_lines.specs.Signs.{shown_signs, signs}
use Rattle.xk_jobs.specs.Status.{status_device, status_done, status_memory, status_words}
use Rattle.xk_jobs.specs.Tasks.{asked_value}
use Rattle.xk_jobs.specs.CommandAnswers.{explanation}
use Rattle.xk_jobs.specs.CommandFiles.{read_path, written_path}
use Rattle.xk_jobs.specs.declared.job.Form.{Form}
use Rattle.xk_jobs.specs.declared.job.Form.TheVariants as form
use Rattle.xk_rules.specs.Pages.{rule_text}
use Rattle.xk_jobs.specs.declared.job.Command.{Command}
use Rattle.xk_jobs.specs.declared.job.Command.TheVariants as command
use Rattle.xk_jobs.specs.declared.job.HandRun.{HandRun}
use Rattle.xk_jobs.specs.declared.job.Request.{Request}
use Rattle.xk_jobs.specs.declared.job.Request.TheVariants as request
use Rattle.xk_serve.specs.Answer.{Task, reads_more, task_of}
use Rattle.xk_program.specs.Bytes.{kept}
use Rattle.xk_program.specs.Lines.{device_line}
use Rattle.xk_messages.specs.Lines.{memory_line}
use Rattle.xk_serve.specs.Devices.{Answered, AnsweredBySome, ErrBegins, IfKnown, OutBegins, Tells}
use Rattle.x10clock.specs.declared.files.Which.{Which}
use Rattle.x10clock.specs.declared.files.Which.TheVariants as which
use Rattle.x10clock.specs.declared.files.Over.{Over}
use Rattle.x10clock.specs.declared.files.Over.TheVariants as over
use Rattle.xk_serve_ask.specs.AskedRun.{BeginsAsking, EndsAsking, IsHandReply, IsHandReplyOfSome, OutBeginsRun}

-- where the log would be written over what is read: FILE, or the answers of a run by hand
abbrev pub over_read_line : Request → List ℕ
over_read_line (request.Job job) = codes "x10clock: --log would write over FILE\n"
over_read_line (request.ByHand run) = codes "x10clock: --log would write over FILE or standard input\n"

-- or over what standard output or standard error goes to
abbrev pub over_line : Request → Over → List ℕ
over_line r over.Read = over_read_line r
over_line r over.Output = codes "x10clock: --log would write over standard output\n"
over_line r over.Error = codes "x10clock: --log would write over standard error\n"

-- what the log would be written over, if its file wasn't made for that
abbrev pub what_over : {F : Type 0} → Result F Over → Option Over
what_over (Ok file) = None
what_over (Err what) = Some what

-- ---- the log that is written

-- where it goes, if there is one
abbrev pub log_path : Request → Option (List ℕ)
log_path (request.Job job) = written_path job.command
log_path (request.ByHand run) = option_map (λ path. path.now) run.log

abbrev pub WritesLog : Request → Type 0
WritesLog r = is_some (log_path r) ≡ true

-- there is one, and it is told what it would be written over
abbrev pub IsToldOver : Request → Option (List ℕ) → Option (List ℕ) → ℕ → ℕ → ℕ → Type 0
IsToldOver r err_old err_new faults_old faults_new status =
    WritesLog r × ((what : Over) × Tells (over_line r what) status_words err_old err_new faults_old faults_new status)

-- ---- a file that can't be opened

-- whether it is told which file can't be opened: the specification fixes what is told of runs, replays, checks, modules and charts
abbrev pub is_left_open : Command → Bool
is_left_open command.Check = false
is_left_open command.Compile = false
is_left_open (command.Run drive log) = false
is_left_open (command.Tally seed runs) = false
is_left_open (command.Replay log) = false
is_left_open (command.Chart log) = false
is_left_open _ = true

abbrev pub names_files : Request → Bool
names_files (request.Job job) = is_left_open job.command
names_files (request.ByHand run) = false

-- the path of one of the files: of FILE, of the log or the list that is read, of the log that is written
abbrev pub path_of : Request → Which → Option (List ℕ)
path_of (request.Job job) which.Program = Some job.file.now
path_of (request.Job job) which.Beside = read_path job.command
path_of (request.Job job) which.Log = written_path job.command
path_of (request.ByHand run) _ = None

-- the path that is told
abbrev pub told_path : Request → Which → Option (List ℕ)
told_path r w = if names_files r then path_of r w else None

-- why a file can't be opened, by what kind of error the system gives
abbrev pub reason_of : ErrorKind → List ℕ
reason_of kind.NotFound = codes ": no such file or folder\n"
reason_of kind.IsADirectory = codes ": it is a folder\n"
reason_of kind.PermissionDenied = codes ": no permission\n"
reason_of _ = codes ": the system can't open it\n"

-- which file can't be opened, and why, where that is told; and then a device's line
abbrev pub unopened_lines : Option (List ℕ) → ErrorKind → List ℕ
unopened_lines (Some path) why = codes "x10clock: can't open " ++ (shown_signs (signs path) ++ (reason_of why ++ device_line))
unopened_lines None why = device_line

-- that was told; or, where a path is told, want of memory for it
abbrev pub TellsUnopened : Option (List ℕ) → ErrorKind → Option (List ℕ) → Option (List ℕ) → ℕ → ℕ → ℕ → Type 0
TellsUnopened path why old new faults_old faults_new status =
    Tells (unopened_lines path why) status_device old new faults_old faults_new status
    ⊎ ((is_some path ≡ true) × Tells memory_line status_memory old new faults_old faults_new status)

-- that was told of one of the files
abbrev pub IsToldUnopened : Request → Option (List ℕ) → Option (List ℕ) → Type 0
IsToldUnopened r old new = (w : Which) × (why : ErrorKind) × Appends old new (unopened_lines (told_path r w) why)

-- ---- answers

-- status and texts answer the task on these bytes, and the log or the list in those
abbrev pub AnswersTask : Task → ℕ → Option (List ℕ) → Option (List ℕ) → Option (List ℕ) → Option (List ℕ) → Option (List ℕ) → Option (List ℕ)
    → List ℕ → List ℕ → Type 0
AnswersTask t status out_old out_new err_old err_new log_old log_new bytes logged =
    status ≢ status_memory → status ≢ status_device → Answered t bytes logged status out_old out_new err_old err_new log_old log_new

-- they are those of the run by hand of these bytes, by the answers in the input
abbrev pub AnswersHand : HandRun → Option (List ℕ) → Option (List ℕ) → ℕ → Option (List ℕ) → Option (List ℕ) → Option (List ℕ) → Option (List ℕ)
    → Option (List ℕ) → Option (List ℕ) → List ℕ → Type 0
AnswersHand run in_old in_new status out_old out_new err_old err_new log_old log_new bytes =
    status ≢ status_memory → status ≢ status_device
    → IsHandReply run.form (kept run.form bytes) run.arguments.items (is_some run.log) status in_old in_new out_old out_new err_old err_new log_old log_new

-- If the bytes of FILE are known, and neither memory nor a device fails, status and texts answer the job, or are those of the run by hand.
abbrev pub IsAnswered : Request → Option (List ℕ) → Option (List ℕ) → Option (List ℕ) → ℕ → Option (List ℕ) → Option (List ℕ) → Option (List ℕ)
    → Option (List ℕ) → Option (List ℕ) → Option (List ℕ) → Type 0
IsAnswered (request.Job job) program in_old in_new status out_old out_new err_old err_new log_old log_new =
    IfKnown (task_of job) program in_old (AnswersTask (task_of job) status out_old out_new err_old err_new log_old log_new)
IsAnswered (request.ByHand run) program in_old in_new status out_old out_new err_old err_new log_old log_new =
    IfSome program (AnswersHand run in_old in_new status out_old out_new err_old err_new log_old log_new)

-- Whatever is known of FILE, status and texts answer the job on some bytes of it, or are those of the run by hand of some.
abbrev pub IsAnsweredBySome : Request → Option (List ℕ) → Option (List ℕ) → Option (List ℕ) → ℕ → Option (List ℕ) → Option (List ℕ)
    → Option (List ℕ)
    → Option (List ℕ) → Option (List ℕ) → Option (List ℕ) → Type 0
IsAnsweredBySome (request.Job job) program in_old in_new status out_old out_new err_old err_new log_old log_new =
    AnsweredBySome (task_of job) program in_old status out_old out_new err_old err_new log_old log_new
IsAnsweredBySome (request.ByHand run) program in_old in_new status out_old out_new err_old err_new log_old log_new =
    IsHandReplyOfSome run.form program run.arguments.items (is_some run.log) status in_old in_new out_old out_new err_old err_new log_old
    log_new

-- ---- where something fails

-- whatever fails, standard output and the log have a beginning of such an answer
abbrev pub OutIsBegun : Request → Option (List ℕ) → Option (List ℕ) → Option (List ℕ) → Option (List ℕ) → Option (List ℕ) → Option (List ℕ) → Type 0
OutIsBegun (request.Job job) program input out_old out_new log_old log_new =
    IfKnown (task_of job) program input (λ bytes logged. OutBegins (task_of job) bytes logged out_old out_new log_old log_new)
OutIsBegun (request.ByHand run) program input out_old out_new log_old log_new =
    IfSome program (λ bytes.
    OutBeginsRun run.form (kept run.form bytes) run.arguments.items (is_some run.log) input out_old out_new log_old log_new)

-- and standard error a beginning of what may stand there
abbrev pub ErrIsBegun : Request → Option (List ℕ) → Option (List ℕ) → Option (List ℕ) → Option (List ℕ) → Type 0
ErrIsBegun (request.Job job) program input old new = IfKnown (task_of job) program input (λ bytes logged. ErrBegins (task_of job) bytes logged old new)
ErrIsBegun (request.ByHand run) program input old new =
    IfSome program (λ bytes. BeginsAsking run.form (kept run.form bytes) run.arguments.items input old new)

-- this line was written to standard error, and nothing before it but, in a run by hand, a beginning of what is asked
abbrev pub EndsIn : Request → Option (List ℕ) → Option (List ℕ) → List ℕ → Option (List ℕ) → Option (List ℕ) → Type 0
EndsIn (request.Job job) program input line old new = Appends old new line
EndsIn (request.ByHand run) program input line old new = EndsAsking run.form program run.arguments.items input line old new

-- ---- what is read

-- FILE of a run by hand would be standard input, which has the answers
abbrev pub input_line : List ℕ
input_line = codes "x10clock: --order ask reads standard input, so FILE can't be -\n"

-- a device failed: its line was told, or a file couldn't be opened and that was, or standard error failed
abbrev pub IsDeviceTold : Request → Option (List ℕ) → Option (List ℕ) → Option (List ℕ) → Option (List ℕ) → ℕ → ℕ → Type 0
IsDeviceTold r program input old new faults_old faults_new =
    (EndsIn r program input device_line old new ⊎ Rose faults_old faults_new) ⊎ IsToldUnopened r old new

abbrev pub IsByHand : Request → Type 0
IsByHand (request.Job job) = ⊥
IsByHand (request.ByHand run) = Unit {0}

-- neither a log nor a list nor answers are read
abbrev pub ReadsNoMore : Request → Type 0
ReadsNoMore (request.Job job) = reads_more (task_of job).doing ≡ false
ReadsNoMore (request.ByHand run) = ⊥

-- some text was written, and behind it this line
abbrev pub IsLastLine : List ℕ → Option (List ℕ) → Option (List ℕ) → Type 0
IsLastLine line old new = (said : List ℕ) × Appends old new (said ++ line)

-- ---- the page of a rule

-- what `explain` is asked for is the page of this rule: it is to be no JSON value, and FILE no module
abbrev pub page_asked : Option Bool → Form → List ℕ → Option (List ℕ)
page_asked (Some false) form.Source file = rule_text file
page_asked _ _ _ = None

abbrev pub rule_page : Request → Option (List ℕ)
rule_page (request.Job job) = page_asked (explanation job.command) job.form job.file.now
rule_page (request.ByHand run) = None

-- that page was written, and nothing to standard error
abbrev pub IsPageWritten : List ℕ → ℕ → Option (List ℕ) → Option (List ℕ) → Option (List ℕ) → Option (List ℕ) → Type 0
IsPageWritten page status out_old out_new err_old err_new =
    (status ≡ status_done) × Appends out_old out_new page × Appends err_old err_new []

-- ---- what is asked for

-- Where neither memory nor a device fails, status and texts answer what is asked for on some bytes of FILE, of which nothing is known
-- before it is opened;
-- or they tell what the log would be written over, or that FILE of a run by hand is standard input.
abbrev pub IsServed : Request → ℕ → Option (List ℕ) → Option (List ℕ) → Option (List ℕ) → Option (List ℕ) → ℕ → ℕ → Type 0
IsServed r status out_old out_new err_old err_new faults_old faults_new =
    status ≢ status_memory → status ≢ status_device
    → IsAnsweredBySome r None None None status out_old out_new err_old err_new None None
    ⊎ (IsToldOver r err_old err_new faults_old faults_new status
    ⊎ (IsByHand r × ((asked_value r).file ≡ codes "-") × Tells input_line status_words err_old err_new faults_old faults_new status))

-- The same, or, where a rule's code stands for FILE, what that rule means is told.
abbrev pub IsGiven : Request → ℕ → Option (List ℕ) → Option (List ℕ) → Option (List ℕ) → Option (List ℕ) → ℕ → ℕ → Type 0
IsGiven r status out_old out_new err_old err_new faults_old faults_new =
    IsServed r status out_old out_new err_old err_new faults_old faults_new
    ⊎ ((page : List ℕ) × (rule_page r ≡ Some page)
    × (status ≢ status_device → IsPageWritten page status out_old out_new err_old err_new))
