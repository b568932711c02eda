-- What the program answers to `run --order ask`: which status and texts the bytes of FILE and of standard input may have. This project's own.
use Rattle.std.specs.Prelude.{◌≡◌, ℕ, ℤ, ◌⊎◌, Bool, List, [], ◌++◌, codes, decimal, take, Option, Some, None, IfSome, if◌then◌else◌}
use Rattle.std.specs.Io.KnownBytes.{Appends}
use Rattle.xk_types.specs.declared.world.Entry.{Entry}
use Rattle.xk_types.specs.Acceptance.{IsAccepted}
use Rattle.xk_types.specs.Code.{ModuleValue}
use Rattle.xk_types.specs.Device.{Rose}
use Rattle.xk_types.specs.World.{AreArguments}
use Rattle.xk_jobs.specs.declared.job.Form.{Form}
use Rattle.xk_io.specs.Lines.{number_lines}
use Rattle.xk_log.specs.LogText.{log_text}
use Rattle.xk_messages.specs.Lines.{ended_line}
use Rattle.xk_io.specs.Writing.{AppendsBeginning}
use Rattle.xk_ask.specs.Answers.{AreAnswers}
use Rattle.xk_ask.specs.Asking.{Leaves}
use Rattle.xk_ask.specs.Play.{IsPlayed, log_by, told_by, unread}
use Rattle.xk_ask.specs.declared.fault.AskFault.{AskFault}
use Rattle.xk_ask.specs.declared.fault.AskFault.TheVariants as ask
use Rattle.xk_program.specs.declared.fault.Fault.{Fault}
use Rattle.xk_program.specs.declared.fault.Fault.TheVariants as fault
use Rattle.xk_program.specs.Refusals.{IsNotRun}
use Rattle.xk_serve.specs.Printed.{whole_status}
use Rattle.xk_unit_origins.specs.UnitOrigins.{UnitOrigins}
use Rattle.xk_ask.specs.ProgramTexts.{ProgramTextValue, known_text, no_source}
use Rattle.xk_program.specs.Origins.{IsByNames}
use Rattle.xk_program.specs.Bytes.{kept}
use Rattle.xk_program.specs.Faults.{GivesNoModule}
use Rattle.xk_program.specs.Lines.{fault_line, status_of}
use Rattle.xk_program.specs.Programs.{Gives}
use Rattle.xk_serve.specs.Devices.{AreKeptOf}

-- want of memory is one fault, whoever met it
abbrev pub fault_of : AskFault → Fault
fault_of ask.Device = fault.Device
fault_of ask.OutOfMemory = fault.OutOfMemory

-- where the input ends before the run does
abbrev pub stopped_line : ℕ → List ℕ
stopped_line steps = codes "stopped steps " ++ (decimal steps ++ codes "\n")

-- the last line of standard output
abbrev pub last_line : Bool → ℕ → List ℕ
last_line whole steps = if whole then ended_line steps else stopped_line steps

-- the bytes give no module, or one that isn't run with these arguments
abbrev pub IsUnfitFor : Form → List ℕ → List ℤ → Fault → Type 0
IsUnfitFor form bytes args f = GivesNoModule form bytes f ⊎ ((m : ModuleValue) × Gives form bytes m × IsNotRun m args f)

-- some text of which this holds was written
abbrev pub IsWrittenBy : (List ℕ → Type 0) → Option (List ℕ) → Option (List ℕ) → Type 0
IsWrittenBy P old new = (text : List ℕ) × P text × Appends old new text

-- A fault that came while it was asked: the input failed, or standard error did; or memory was wanting.
abbrev pub FailsWhile : ℕ → ℕ → ℕ → ℕ → Fault → Type 0
FailsWhile in_old in_new err_old err_new fault.Device = (Rose in_old in_new × (err_new ≡ err_old)) ⊎ Rose err_old err_new
FailsWhile in_old in_new err_old err_new fault.OutOfMemory = (in_new ≡ in_old) × (err_new ≡ err_old)
FailsWhile in_old in_new err_old err_new _ = ⊥

-- a fault of the bytes, before anything was asked and told; or one that came meanwhile
abbrev pub StandsAgainstAsked : Form → List ℕ → List ℤ → ℕ → ℕ → ℕ → ℕ → Option (List ℕ) → Option (List ℕ) → Fault → Type 0
StandsAgainstAsked form bytes args in_old in_new err_old err_new old new f =
    FailsWhile in_old in_new err_old err_new f ⊎ (IsUnfitFor form bytes args f × (in_new ≡ in_old) × (err_new ≡ err_old) × Appends old new [])

-- what is known of a program with these shared numbers, if it is a source text whose units have these origins
abbrev pub known_of : List ℕ → List (List ℕ) → Option (List UnitOrigins) → ProgramTextValue
known_of bytes shared None = no_source
known_of bytes shared (Some origins) = known_text bytes origins shared

-- this is told of the run by these answers, of a source text by its lines and names
abbrev pub IsAskedBy : Form → List ℕ → ModuleValue → List ℤ → List (Option ℕ) → List ℕ → Type 0
IsAskedBy form bytes m args xs told = IsByNames form bytes (λ shared origins. told_by (known_of bytes shared origins) m args xs) told

-- The bytes give a module that is accepted and whose main takes these numbers; by some answers, which are those of the input where its bytes are known, its
-- run has this log, prints these numbers and takes so many steps, and all have ended or not; and this is told meanwhile.
pub record IsHandRun (form : Form) (bytes : List ℕ) (args : List ℤ) (input : Option (List ℕ)) (told : List ℕ) (log : List Entry) (numbers : List ℤ)
    (steps : ℕ) (whole : Bool) : Type 0 where
  pub of : ModuleValue
  pub given : Gives form bytes of
  pub accepted : IsAccepted of
  pub taken : AreArguments of args
  pub played : IsPlayed of args log numbers steps whole
  pub answers : List (Option ℕ)
  pub are : AreAnswers input answers
  pub log_is : log ≡ log_by of args answers
  pub told_is : IsAskedBy form bytes of args answers told

-- Such a run was played and told; of the input, where its bytes are known, those are left that aren't wanted.
pub record IsPlayedByHand (form : Form) (bytes : List ℕ) (args : List ℤ) (in_old in_new err_old err_new : Option (List ℕ)) (log : List Entry) (numbers : List ℤ)
    (steps : ℕ) (whole : Bool) : Type 0 where
  pub told : List ℕ
  pub run : IsHandRun form bytes args in_old told log numbers steps whole
  pub rest_is : Leaves (unread run.of args whole) in_old in_new
  pub err_is : Appends err_old err_new told

-- the answer is such a run
pub record IsRunReply (form : Form) (bytes : List ℕ) (args : List ℤ) (keeps : Bool) (status : ℕ)
    (in_old in_new out_old out_new err_old err_new log_old log_new : Option (List ℕ)) : Type 0 where
  pub log : List Entry
  pub numbers : List ℤ
  pub steps : ℕ
  pub whole : Bool
  pub by_hand : IsPlayedByHand form bytes args in_old in_new err_old err_new log numbers steps whole
  pub status_is : status ≡ whole_status whole
  pub out_is : Appends out_old out_new (number_lines numbers ++ last_line whole steps)
  pub log_is : Appends log_old log_new (if keeps then log_text log else [])

-- the answer is what stands against a run
pub record IsFaultReply (form : Form) (bytes : List ℕ) (args : List ℤ) (status : ℕ)
    (out_old out_new err_old err_new log_old log_new : Option (List ℕ)) : Type 0 where
  pub told : Fault
  pub unfit : IsUnfitFor form bytes args told
  pub status_is : status ≡ status_of told
  pub out_is : Appends out_old out_new []
  pub err_is : Appends err_old err_new (fault_line told)
  pub log_is : Appends log_old log_new []

-- the answer is a run by hand, or what stands against one
abbrev pub IsHandReply : Form → List ℕ → List ℤ → Bool → ℕ → Option (List ℕ) → Option (List ℕ) → Option (List ℕ) → Option (List ℕ) → Option (List ℕ)
    → Option (List ℕ) → Option (List ℕ) → Option (List ℕ) → Type 0
IsHandReply form bytes args keeps status in_old in_new out_old out_new err_old err_new log_old log_new =
    IsRunReply form bytes args keeps status in_old in_new out_old out_new err_old err_new log_old log_new
    ⊎ IsFaultReply form bytes args status out_old out_new err_old err_new log_old log_new

-- they are so on some bytes of FILE, known or not
pub record IsHandReplyOfSome (form : Form) (program : Option (List ℕ)) (args : List ℤ) (keeps : Bool) (status : ℕ)
    (in_old in_new out_old out_new err_old err_new log_old log_new : Option (List ℕ)) : Type 0 where
  pub bytes : List ℕ
  pub are : AreKeptOf form program bytes
  pub reply : IsHandReply form bytes args keeps status in_old in_new out_old out_new err_old err_new log_old log_new

-- ---- where memory is wanting, or a device fails

-- a beginning of what is asked in a run of these bytes; nothing where none is run
abbrev pub IsAskedFirst : Form → List ℕ → List ℤ → Option (List ℕ) → List ℕ → Type 0
IsAskedFirst form bytes args input said =
    (said ≡ []) ⊎ ((m : ModuleValue) × Gives form bytes m × IsAccepted m × AreArguments m args × ((xs : List (Option ℕ)) × AreAnswers input xs
    × ((told : List ℕ) × IsAskedBy form bytes m args xs told × ((n : ℕ) × (said ≡ take n told)))))

-- nothing was written, or a beginning of what is asked in a run of this module
abbrev pub BeginsToAsk : Form → List ℕ → ModuleValue → List ℤ → Option (List ℕ) → Option (List ℕ) → Option (List ℕ) → Type 0
BeginsToAsk form bytes m args input old new =
    Appends old new []
    ⊎ ((xs : List (Option ℕ)) × AreAnswers input xs × ((told : List ℕ) × IsAskedBy form bytes m args xs told × AppendsBeginning old new told))

-- standard error got a beginning of what is asked, and then this line
abbrev pub EndsAsking : Form → Option (List ℕ) → List ℤ → Option (List ℕ) → List ℕ → Option (List ℕ) → Option (List ℕ) → Type 0
EndsAsking form program args input line old new =
    (said : List ℕ) × IfSome program (λ bytes. IsAskedFirst form (kept form bytes) args input said) × Appends old new (said ++ line)

-- standard error got a beginning of what is asked, and then a beginning of the line of a device, or of what stands against a run
abbrev pub BeginsAsking : Form → List ℕ → List ℤ → Option (List ℕ) → Option (List ℕ) → Option (List ℕ) → Type 0
BeginsAsking form bytes args input old new =
    (said : List ℕ) × IsAskedFirst form bytes args input said
    × ((f : Fault) × ((f ≡ fault.Device) ⊎ IsUnfitFor form bytes args f) × ((n : ℕ) × Appends old new (said ++ take n (fault_line f))))

-- standard output got a beginning of this text, and the log nothing; or the one got all, and the other a beginning of its own
abbrev pub AreBegun : List ℕ → List ℕ → Option (List ℕ) → Option (List ℕ) → Option (List ℕ) → Option (List ℕ) → Type 0
AreBegun text log out_old out_new log_old log_new =
    (AppendsBeginning out_old out_new text × Appends log_old log_new []) ⊎ (Appends out_old out_new text × AppendsBeginning log_old log_new log)

-- nothing was written to standard output and to the log, or a beginning of what a run by hand gives
abbrev pub OutBeginsRun : Form → List ℕ → List ℤ → Bool → Option (List ℕ) → Option (List ℕ) → Option (List ℕ) → Option (List ℕ) → Option (List ℕ) → Type 0
OutBeginsRun form bytes args keeps input out_old out_new log_old log_new = (Appends out_old out_new [] × Appends log_old log_new [])
    ⊎ ((told : List ℕ) × (log : List Entry) × (numbers : List ℤ) × (steps : ℕ) × (whole : Bool) × IsHandRun form bytes args input told log numbers steps whole
    × AreBegun (number_lines numbers ++ last_line whole steps) (if keeps then log_text log else []) out_old out_new log_old log_new)
