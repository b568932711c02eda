-- What a call of the library answers, on bytes in memory. This project's own.
use Rattle.std.specs.Prelude.{◌≡◌, ◌≢◌, ℕ, ◌⊎◌, Bool, List, [], ◌++◌, codes, drop, false, length, take}
use Rattle.std.specs.Prelude.{Option, None, Some, IsUtf8, is_some, string_bytes}
use Rattle.xk_jobs.specs.Status.{status_device, status_done, status_memory, status_words}
use Rattle.xk_jobs.specs.CommandAnswers.{explanation}
use Rattle.xk_jobs.specs.Tasks.{asked_value}
use Rattle.xk_cli.specs.CommandLine.{IsRefused, WithOrders, faults_in, job_of, misfits_in}
use Rattle.xk_jobs.specs.declared.job.Form.{Form}
use Rattle.xk_jobs.specs.declared.job.Form.TheVariants as form
use Rattle.xk_jobs.specs.declared.job.HandRun.{HandRun}
use Rattle.xk_jobs.specs.declared.job.Request.{Request}
use Rattle.xk_jobs.specs.declared.job.Request.TheVariants as request
use Rattle.xk_cli.specs.declared.words_fault.WordsFault.{WordsFault}
use Rattle.xk_program.specs.Bytes.{kept}
use Rattle.xk_rules.specs.Pages.{rule_text}
use Rattle.xk_serve.specs.Answer.{Answers, Reply, Task, task_of}
use Rattle.xk_serve.specs.Devices.{IfKnown, TellsWords}
use Rattle.xk_serve_ask.specs.AskedRun.{IsHandReply}
use Rattle.x10clock_c.specs.declared.room.Lengths.{Lengths}
use Rattle.x10clock_c.specs.Words.{words_of}

-- ---- what is answered

abbrev pub reply_of : ℕ → List ℕ → List ℕ → List ℕ → Reply
reply_of status out err log = record { status = status; out = out; err = err; log = log }

-- it has this status and these texts, and neither memory nor a device failed
abbrev pub IsReplyOf : ℕ → List ℕ → List ℕ → List ℕ → Reply → Type 0
IsReplyOf status out err log reply = (reply ≡ reply_of status out err log) × (status ≢ status_memory) × (status ≢ status_device)

-- the reply answers the task on these bytes of FILE and of what is read beside it
abbrev pub IsAnswerTo : Task → Reply → List ℕ → List ℕ → Type 0
IsAnswerTo t reply bytes logged = Answers t bytes logged reply

-- The reply answers the task on these bytes of FILE, and on those of the input where a log or a list is read.
abbrev pub AnswersJob : Task → List ℕ → List ℕ → Reply → Type 0
AnswersJob t program input reply = IfKnown t (Some program) (Some input) (IsAnswerTo t reply)

-- It is that of a run by hand of these bytes, by the answers in the input, of which some may be left.
abbrev pub AnswersHand : HandRun → List ℕ → List ℕ → Reply → Type 0
AnswersHand run program input reply = (left : List ℕ)
    × IsHandReply run.form (kept run.form program) run.arguments.items (is_some run.log) reply.status (Some input) (Some left)
    (Some []) (Some reply.out) (Some []) (Some reply.err) (Some []) (Some reply.log)

-- what `explain` is asked for is the page of this rule: it is to be no JSON value, and FILE no module
abbrev pub page_asked : Option Bool → Form → List ℕ → Option (List ℕ)
page_asked (Some false) form.Source file = rule_text file
page_asked _ _ _ = None

abbrev pub rule_page : Request → Option (List ℕ)
rule_page (request.Job job) = page_asked (explanation job.command) job.form job.file.now
rule_page (request.ByHand run) = None

-- a job is done, and a run by hand played
abbrev pub AnswersAsked : Request → List ℕ → List ℕ → Reply → Type 0
AnswersAsked (request.Job job) program input reply = AnswersJob (task_of job) program input reply
AnswersAsked (request.ByHand run) program input reply = AnswersHand run program input reply

-- where a rule's code stands for FILE, what that rule means is told
abbrev pub AnswersRequest : Request → List ℕ → List ℕ → Reply → Type 0
AnswersRequest r program input reply = ((page : List ℕ) × (rule_page r ≡ Some page) × (reply ≡ reply_of status_done page [] []))
    ⊎ ((rule_page r ≡ None) × AnswersAsked r program input reply)

-- ---- words

-- `clap` finds no mistake in these words, and no request for help, and they ask for this, of which that holds
abbrev pub AskFor : List (List ℕ) → (Request → Type 0) → Type 0
AskFor given P = WithOrders (λ names. faults_in names given ≡ [])
    × WithOrders (λ names. (r : Request) × (job_of names given ≡ Some (asked_value r)) × P r)

-- they are no job, for this reason
abbrev pub AreNoJob : List (List ℕ) → WordsFault → Type 0
AreNoJob given f = WithOrders (λ names. IsRefused (faults_in names given) (job_of names given) (misfits_in names given) f)

-- that reason is told: help on standard output, and all else on standard error
abbrev pub AnswersFault : WordsFault → Reply → Type 0
AnswersFault f reply = TellsWords f (λ text status. reply ≡ reply_of status text [] []) (λ text status. reply ≡ reply_of status [] text [])

-- what the words ask for is answered; or they are no job, and it is told why
abbrev pub AnswersWords : List (List ℕ) → List ℕ → List ℕ → Reply → Type 0
AnswersWords given program input reply = AskFor given (λ r. AnswersRequest r program input reply)
    ⊎ ((f : WordsFault) × AreNoJob given f × AnswersFault f reply)

-- the line where a word is no text
abbrev pub no_text_line : List ℕ
no_text_line = codes "x10clock: a word is not in UTF-8\n"

-- the words in these bytes are answered, if they are text
abbrev pub AnswersCall : List ℕ → List ℕ → List ℕ → Reply → Type 0
AnswersCall words program input reply = (IsUtf8 words × AnswersWords (words_of words) program input reply)
    ⊎ ((¬ IsUtf8 words) × (reply ≡ reply_of status_words [] no_text_line []))

-- ---- rooms

-- as much of a text as there is room for stands at the front of the room, and nothing else of it is changed
abbrev pub IsShown : List ℕ → List ℕ → List ℕ → Type 0
IsShown old new text = new ≡ take (length old) text ++ drop (length text) old

-- how long the texts of a reply are
abbrev pub lengths_of : Reply → Lengths
lengths_of reply = record { out = length reply.out; err = length reply.err; log = length reply.log }

-- they are shown in these rooms, and it is told how long they are
abbrev pub AreShown : Reply → List ℕ → List ℕ → List ℕ → List ℕ → List ℕ → List ℕ → Lengths → Type 0
AreShown reply out_old out_new err_old err_new log_old log_new lengths =
    IsShown out_old out_new reply.out × IsShown err_old err_new reply.err × IsShown log_old log_new reply.log × (lengths ≡ lengths_of reply)

-- the rooms are as they were, and all lengths 0
abbrev pub AreKept : List ℕ → List ℕ → List ℕ → List ℕ → List ℕ → List ℕ → Lengths → Type 0
AreKept out_old out_new err_old err_new log_old log_new lengths =
    (out_new ≡ out_old) × (err_new ≡ err_old) × (log_new ≡ log_old) × (lengths ≡ record { out = 0; err = 0; log = 0 })
