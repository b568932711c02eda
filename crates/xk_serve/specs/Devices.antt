-- What the program does with its devices. This project's own.
use Rattle.std.specs.Prelude.{◌≡◌, ◌≢◌, ℕ, ◌⊎◌, true, List, [], ◌++◌, string_bytes, if◌then◌else◌}
use Rattle.std.specs.Prelude.{Option, Some, Result, IfErr, IfOk, IfSome}
use Rattle.std.specs.Io.KnownBytes.{Appends}
use Rattle.xk_types.specs.Device.{Rose}
use Rattle.xk_log.specs.SomeBytes.{OfSome}
use Rattle.xk_jobs.specs.Status.{status_device, status_done, status_memory, status_words}
use Rattle.xk_cli.specs.declared.words_fault.WordsFault.{WordsFault}
use Rattle.xk_cli.specs.declared.words_fault.WordsFault.TheVariants as words
use Rattle.xk_jobs.specs.declared.job.Form.{Form}
use Rattle.xk_answers.specs.declared.job_result.Done.{Done}
use Rattle.xk_program.specs.declared.fault.Fault.{Fault}
use Rattle.xk_program.specs.declared.fault.Fault.TheVariants as fault
use Rattle.xk_io.specs.Writing.{AppendsBeginning}
use Rattle.xk_serve.specs.declared.refusal.Refusal.{Refusal}
use Rattle.xk_serve.specs.Notes.{note_of, told_of}
use Rattle.xk_serve.specs.Answer.{Answers, FailsBy, Reply, Succeeds, Task, IsSaidOf, reads_list, reads_more}
use Rattle.xk_answers.specs.Results.{Doing, longest_list}
use Rattle.xk_program.specs.Bytes.{LosesAtMost, kept}
use Rattle.xk_program.specs.Lines.{device_line, fault_line, status_of}
use Rattle.xk_answers.specs.Printed.{done_log, done_text}
use Rattle.xk_cli.specs.Misfits.{line_of}
use Rattle.xk_messages.specs.Lines.{memory_line}

-- all that is printed of it went to standard output, and its log to the log's device
abbrev pub IsWritten : Done → Option (List ℕ) → Option (List ℕ) → Option (List ℕ) → Option (List ℕ) → Type 0
IsWritten d out_old out_new log_old log_new = Appends out_old out_new (done_text d) × Appends log_old log_new (done_log d)

-- standard output got a beginning of what is printed of it, and the log's device nothing; or the one got all, and the other a beginning
abbrev pub IsBegun : Done → Option (List ℕ) → Option (List ℕ) → Option (List ℕ) → Option (List ℕ) → Type 0
IsBegun d out_old out_new log_old log_new = (AppendsBeginning out_old out_new (done_text d) × Appends log_old log_new [])
    ⊎ (Appends out_old out_new (done_text d) × AppendsBeginning log_old log_new (done_log d))

-- the bytes of the log or the list that a task reads, where they are known; none where it reads neither
abbrev pub read_of : Task → Option (List ℕ) → Option (List ℕ)
read_of t known = if reads_more t.doing then known else Some []

-- of a list of outcomes that was to be read no more bytes than count were read
abbrev pub IsListReadToLimit : Doing → Option (List ℕ) → Option (List ℕ) → Type 0
IsListReadToLimit what old new = reads_list what ≡ true → LosesAtMost longest_list old new

-- the bytes of FILE and those of the log or the list that is read are known, and this holds of them
abbrev pub IfKnown : Task → Option (List ℕ) → Option (List ℕ) → (List ℕ → List ℕ → Type 0) → Type 0
IfKnown t program logged P = IfSome program (λ bytes. IfSome (read_of t logged) (λ log. P bytes log))

-- how often the two sources failed, before and after
pub record Reads : Type 0 where
  pub program_old : ℕ
  pub program_new : ℕ
  pub log_old : ℕ
  pub log_new : ℕ

abbrev pub reads : ℕ → ℕ → ℕ → ℕ → Reads
reads program_old program_new log_old log_new =
    record { program_old = program_old; program_new = program_new; log_old = log_old; log_new = log_new }

-- neither failed
abbrev pub IsRead : Reads → Type 0
IsRead n = (n.program_new ≡ n.program_old) × (n.log_new ≡ n.log_old)

-- one of them failed
abbrev pub FailsToRead : Reads → Type 0
FailsToRead n = Rose n.program_old n.program_new ⊎ Rose n.log_old n.log_new

-- The fault is one of the task on the known bytes, or want of memory, and then no source failed, and this is what is said of it on standard
-- output; or a source failed, and nothing is said.
abbrev pub StandsAgainst : Task → Option (List ℕ) → Option (List ℕ) → Reads → Fault → List ℕ → Type 0
StandsAgainst t known logged n fault.Device said = FailsToRead n × (said ≡ [])
StandsAgainst t known logged n f said = IsRead n × IfKnown t known logged (λ bytes log. FailsBy t bytes log f × IsSaidOf t bytes f said)

-- The same on these bytes of FILE, and on those of the log or the list that is read, where they are known, or else on some.
abbrev pub StandsOn : Task → List ℕ → Option (List ℕ) → Reads → Fault → List ℕ → Type 0
StandsOn t bytes logged n fault.Device said = FailsToRead n × (said ≡ [])
StandsOn t bytes logged n f said = IsRead n × OfSome (read_of t logged) (λ log. FailsBy t bytes log f × IsSaidOf t bytes f said)

-- these are the bytes that are kept of FILE, where those in it are known
abbrev pub AreKeptOf : Form → Option (List ℕ) → List ℕ → Type 0
AreKeptOf form program bytes = IfSome program (λ all. bytes ≡ kept form all)

-- Where the bytes of FILE are known, this stands before the line of a fault.
abbrev pub IsNoted : Task → Option (List ℕ) → Fault → List ℕ → Type 0
IsNoted t program f note = IfSome program (λ bytes. note ≡ note_of t.doing bytes f)

-- On some bytes of FILE, and of the log or the list that is read, each known or not, the task comes to what it is said to come to, or what is said
-- to stand against it does, and what stands before its line is that of these bytes.
pub record IsOutcomeOfSome (t : Task) (program logged : Option (List ℕ)) (n : Reads) (r : Result Done Refusal) : Type 0 where
  pub bytes : List ℕ
  pub are : AreKeptOf t.form program bytes
  pub done : IfOk r (λ d. OfSome (read_of t logged) (λ log. Succeeds t bytes log d))
  pub against : IfErr r (λ x. StandsOn t bytes logged n x.refused.fault x.refused.said.items)
  pub noted : IfErr r (λ x. x.note.now ≡ note_of t.doing bytes x.refused.fault)

-- What stands against a task on these bytes, of which the log may still have been read: the numbers are the failures of the log's source.
abbrev pub AgainstLog : Task → List ℕ → Option (List ℕ) → ℕ → ℕ → Fault → Type 0
AgainstLog t bytes known old new fault.Device = Rose old new
AgainstLog t bytes known old new f = (new ≡ old) × OfSome (read_of t known) (λ logged. FailsBy t bytes logged f)

-- The line was written, the sink didn't fail and the status is this one; or a beginning of the line was written, the sink
-- failed and the status is that of a device.
abbrev pub Tells : List ℕ → ℕ → Option (List ℕ) → Option (List ℕ) → ℕ → ℕ → ℕ → Type 0
Tells line status old new faults_old faults_new result =
    ((result ≡ status) × Appends old new line × (faults_new ≡ faults_old))
    ⊎ ((result ≡ status_device) × AppendsBeginning old new line × Rose faults_old faults_new)

-- the fault is told, or, where its line couldn't be made, want of memory
abbrev pub Reports : Fault → Option (List ℕ) → Option (List ℕ) → ℕ → ℕ → ℕ → Type 0
Reports f old new faults_old faults_new result =
    Tells (fault_line f) (status_of f) old new faults_old faults_new result
    ⊎ ((f ≢ fault.Device) × Tells memory_line status_memory old new faults_old faults_new result)

-- All that is said of a fault was written to standard output, and then what stands before its line, and the line, were told; or want
-- of memory was, and nothing was written before; or a write failed: to standard output, which got a beginning, and then a device is
-- told, or to standard error.
abbrev pub Explained : List ℕ → List ℕ → Fault → Option (List ℕ) → Option (List ℕ) → ℕ → ℕ → Option (List ℕ) → Option (List ℕ)
    → ℕ → ℕ → ℕ → Type 0
Explained said note f out_old out_new out_faults out_after err_old err_new err_faults err_after result =
    (Appends out_old out_new said × (out_after ≡ out_faults)
    × Tells (note ++ fault_line f) (status_of f) err_old err_new err_faults err_after result)
    ⊎ ((Appends out_old out_new [] × (out_after ≡ out_faults) × (f ≢ fault.Device) × Tells memory_line status_memory err_old err_new err_faults err_after result)
    ⊎ (AppendsBeginning out_old out_new said × Rose out_faults out_after × Tells device_line status_device err_old err_new err_faults err_after result))

-- where a fault is want of memory or a device's, nothing is said beside its line
abbrev pub IsQuiet : Fault → List ℕ → Type 0
IsQuiet f said = (status_of f ≡ status_memory) ⊎ (status_of f ≡ status_device) → said ≡ []

-- status and texts are an answer to the task on these bytes
pub record Answered (t : Task) (bytes logged : List ℕ) (status : ℕ) (out_old out_new err_old err_new log_old log_new : Option (List ℕ)) : Type 0 where
  pub reply : Reply
  pub answers : Answers t bytes logged reply
  pub status_is : status ≡ reply.status
  pub out_is : Appends out_old out_new reply.out
  pub err_is : Appends err_old err_new reply.err
  pub log_is : Appends log_old log_new reply.log

-- status and texts are an answer to the task on some bytes of FILE, and on some of the log or the list that is read, each known or not
pub record AnsweredBySome (t : Task) (program logged : Option (List ℕ)) (status : ℕ) (out_old out_new err_old err_new log_old log_new :
    Option (List ℕ))
    : Type 0 where
  pub bytes : List ℕ
  pub are : AreKeptOf t.form program bytes
  pub answered : OfSome (read_of t logged) (λ log. Answered t bytes log status out_old out_new err_old err_new log_old log_new)

-- standard output got a beginning of what is said of a fault that stands against the task, and the log nothing
abbrev pub SaidBegins : Task → List ℕ → List ℕ → Option (List ℕ) → Option (List ℕ) → Option (List ℕ) → Option (List ℕ) → Type 0
SaidBegins t bytes logged out_old out_new log_old log_new =
    (f : Fault) × FailsBy t bytes logged f × ((said : List ℕ) × IsSaidOf t bytes f said × AppendsBeginning out_old out_new said × Appends log_old log_new [])

-- Nothing was written to standard output and to the log, or a beginning of what a success of the task gives, or of what is said of a fault.
abbrev pub OutBegins : Task → List ℕ → List ℕ → Option (List ℕ) → Option (List ℕ) → Option (List ℕ) → Option (List ℕ) → Type 0
OutBegins t bytes logged out_old out_new log_old log_new = (Appends out_old out_new [] × Appends log_old log_new [])
    ⊎ (((d : Done) × Succeeds t bytes logged d × IsBegun d out_old out_new log_old log_new) ⊎ SaidBegins t bytes logged out_old out_new log_old log_new)

-- the line of this fault may be told: a device failed, or the fault is one of the bytes
abbrev pub IsTold : Task → List ℕ → List ℕ → Fault → Type 0
IsTold t bytes logged f = (f ≡ fault.Device) ⊎ FailsBy t bytes logged f

-- standard error got a beginning of one such line, and of what stands before it
abbrev pub ErrBegins : Task → List ℕ → List ℕ → Option (List ℕ) → Option (List ℕ) → Type 0
ErrBegins t bytes logged old new = (f : Fault) × IsTold t bytes logged f × AppendsBeginning old new (told_of t.doing bytes f)

-- How words that are no job are told, where the first predicate says what standard output got and with which status,
-- and the second one the same of standard error: help goes to the one, all else to the other.
abbrev pub TellsWords : WordsFault → (List ℕ → ℕ → Type 0) → (List ℕ → ℕ → Type 0) → Type 0
TellsWords (words.Help text) On_out On_err = On_out (string_bytes text) status_done
TellsWords (words.NotUnderstood text) On_out On_err = On_err (string_bytes text) status_words
TellsWords (words.Misfit m) On_out On_err = On_err (line_of m) status_words
TellsWords words.OutOfMemory On_out On_err = On_err memory_line status_memory
