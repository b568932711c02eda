-- What asking does to devices. This project's own.
use Rattle.std.specs.Prelude.{◌≡◌, ℕ, ℤ, ◌⊎◌, ⊤, List, ◌∷◌, ◌++◌, map, drop, take, Option, Some, None, option_map}
use Rattle.std.specs.Io.BufRead.{drop_through}
use Rattle.std.specs.Io.KnownBytes.{Appends}
use Rattle.xk_types.specs.declared.world.Entry.{Entry}
use Rattle.xk_types.specs.Code.{ModuleValue}
use Rattle.xk_types.specs.World.{World}
use Rattle.xk_types.specs.Logs.{one_step_of}
use Rattle.xk_types.specs.Device.{Rose}
use Rattle.xk_ask.specs.declared.fault.AskFault.{AskFault}
use Rattle.xk_ask.specs.declared.fault.AskFault.TheVariants as fault
use Rattle.xk_ask.specs.Answers.{AreAnswers, answers}
use Rattle.xk_core.specs.Core.{CoreValue}
use Rattle.xk_ask.specs.Play.{all_said, log_by, played, question, told_by}
use Rattle.xk_ask.specs.ProgramTexts.{ProgramTextValue}
use Rattle.xk_io.specs.Writing.{AppendsBeginning}

-- the bytes that are still to come, of those that a source has left: no more than may still be read
abbrev pub to_come : ℕ → Option (List ℕ) → Option (List ℕ)
to_come left known = option_map (take left) known

-- of known bytes the first line names x, and behind it these are left
abbrev pub TakesAnswer : Option ℕ → Option (List ℕ) → Option (List ℕ) → Type 0
TakesAnswer x None new = ⊤
TakesAnswer x (Some text) None = ⊥
TakesAnswer x (Some text) (Some rest) = answers text ≡ x ∷ answers rest

-- of known bytes those are left that this tells
abbrev pub Leaves : (List ℕ → List ℕ) → Option (List ℕ) → Option (List ℕ) → Type 0
Leaves rest None new = ⊤
Leaves rest (Some text) None = ⊥
Leaves rest (Some text) (Some left) = left ≡ rest text

-- behind so many of the known bytes stands what stood behind so many of those before
abbrev pub EndAlike : ℕ → Option (List ℕ) → ℕ → Option (List ℕ) → Type 0
EndAlike n None k new = ⊤
EndAlike n (Some text) k None = ⊥
EndAlike n (Some text) k (Some rest) = drop k rest ≡ drop n text

-- a line of the known bytes was read with its line feed, and nothing behind it, where so many bytes might be read before and may be now
abbrev pub TakesLine : ℕ → Option (List ℕ) → ℕ → Option (List ℕ) → Type 0
TakesLine n old k new = Leaves (drop_through 10) old new × EndAlike n old k new

-- what is said to these answers behind the question of a core, to which the run with this log has come
abbrev pub said_on : ProgramTextValue → CoreValue → List Entry → List (Option ℕ) → List ℕ
said_on p c log xs = all_said p c.module_run xs c.world log

-- that question, and what is said to them
abbrev pub said_from : ProgramTextValue → CoreValue → List Entry → List (Option ℕ) → List ℕ
said_from p c log xs = question p c.module_run c.world log ++ said_on p c log xs

-- by some answers the log grew so from this world on, and all that is said to them was written
abbrev pub FollowsSome : ModuleValue → World → List Entry → List Entry → (List (Option ℕ) → List ℕ) → Option (List ℕ) → Option (List ℕ) → Type 0
FollowsSome m w log more text old new =
    (xs : List (Option ℕ)) × (more ≡ log ++ map one_step_of (played m xs w)) × Appends old new (text xs)

-- a beginning of what is said to some answers was written
abbrev pub BeginsSome : (List (Option ℕ) → List ℕ) → Option (List ℕ) → Option (List ℕ) → Type 0
BeginsSome text old new = (xs : List (Option ℕ)) × AppendsBeginning old new (text xs)

-- By answers, which are those of the input where its bytes are known, a run of the module with these arguments has this log, and all that is said was written.
abbrev pub IsByAnswers : ProgramTextValue → ModuleValue → List ℤ → Option (List ℕ) → List Entry → Option (List ℕ) → Option (List ℕ) → Type 0
IsByAnswers p m args input log old new =
    (xs : List (Option ℕ)) × AreAnswers input xs × (log ≡ log_by m args xs) × Appends old new (told_by p m args xs)

-- by such answers a beginning of what is said was written
abbrev pub BeginsByAnswers : ProgramTextValue → ModuleValue → List ℤ → Option (List ℕ) → Option (List ℕ) → Option (List ℕ) → Type 0
BeginsByAnswers p m args input old new = (xs : List (Option ℕ)) × AreAnswers input xs × AppendsBeginning old new (told_by p m args xs)

-- writing failed because a device did, or for want of memory, and then no device failed
abbrev pub FailsToWrite : ℕ → ℕ → AskFault → Type 0
FailsToWrite old new fault.Device = Rose old new
FailsToWrite old new fault.OutOfMemory = new ≡ old

-- the same of asking, which reads and writes: nothing was written behind a read that failed
abbrev pub FailsToAsk : ℕ → ℕ → ℕ → ℕ → AskFault → Type 0
FailsToAsk in_old in_new err_old err_new fault.Device = (Rose in_old in_new × (err_new ≡ err_old)) ⊎ Rose err_old err_new
FailsToAsk in_old in_new err_old err_new fault.OutOfMemory = (in_new ≡ in_old) × (err_new ≡ err_old)
