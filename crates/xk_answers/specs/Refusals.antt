-- What stands against a run of a module by a log, or against a list of outcomes that is read. This project's own.
use Rattle.std.specs.Prelude.{◌≡◌, ℕ, ℤ, ◌⊎◌, true, List, Option, Some}
use Rattle.xk_types.specs.Acceptance.{IsAccepted}
use Rattle.xk_types.specs.Code.{ModuleValue}
use Rattle.xk_types.specs.Device.{Rose}
use Rattle.xk_types.specs.World.{AreArguments}
use Rattle.xk_program.specs.declared.fault.Fault.{Fault}
use Rattle.xk_program.specs.declared.fault.Fault.TheVariants as fault
use Rattle.xk_log.specs.SomeBytes.{OfSome}
use Rattle.xk_log.specs.Verdicts.{IsTruncated, IsWrongAt}
use Rattle.xk_outcome_lists.specs.Expected.{stray_line}
use Rattle.xk_answers.specs.declared.picture.Picture.{Picture}
use Rattle.xk_answers.specs.Results.{IsNoRun, is_of_whole, list_in}
use Rattle.xk_program.specs.Refusals.{IsNotRun, IsRefusal}
use Rattle.xk_program.specs.Faults.{GivesNoModule}
use Rattle.xk_program.specs.Programs.{Gives}
use Rattle.xk_jobs.specs.declared.job.Form.{Form}

-- the bytes give no module, or one that the verifier refuses; of want of memory nothing is claimed
abbrev pub IsUnaccepted : Form → List ℕ → Fault → Type 0
IsUnaccepted kind bytes f = GivesNoModule kind bytes f ⊎ ((m : ModuleValue) × Gives kind bytes m × IsRefusal m f)

-- The same of a log of a run of the module with these arguments: of the bytes that are known, or else of some.
abbrev pub AgainstRun : ModuleValue → List ℤ → Option (List ℕ) → ℕ → ℕ → Fault → Type 0
AgainstRun m args known old new fault.Device = Rose old new
AgainstRun m args known old new f = (new ≡ old) × OfSome known (λ logged. IsNoRun m args logged f)

-- What stands against a run of a module by a log: the module isn't run with these arguments, and no log was read; or it is accepted, main
-- takes as many, and the log is none of such a run.
abbrev pub AgainstModule : ModuleValue → List ℤ → Option (List ℕ) → ℕ → ℕ → Fault → Type 0
AgainstModule m args known old new f =
    ((new ≡ old) × IsNotRun m args f) ⊎ (IsAccepted m × AreArguments m args × AgainstRun m args known old new f)

-- a log that stops before the run does stands against no picture but those of whole runs
abbrev pub MayStand : Picture → Fault → Type 0
MayStand p f = f ≡ fault.NotEnded → is_of_whole p ≡ true

-- bytes that are read as the text of a log, and are none; of want of memory nothing is claimed
abbrev pub AgainstReading : Option (List ℕ) → ℕ → ℕ → Fault → Type 0
AgainstReading known old new fault.Device = Rose old new
AgainstReading known old new fault.OutOfMemory = new ≡ old
AgainstReading known old new (fault.Grammar line) = (new ≡ old) × OfSome known (λ logged. IsWrongAt logged line)
AgainstReading known old new fault.Truncated = (new ≡ old) × OfSome known IsTruncated
AgainstReading known old new _ = ⊥

-- What stands against a log that need not be that of a whole run: the module isn't run with these arguments, and no log was read; or it is accepted, main
-- takes as many, and the bytes are the text of no log.
abbrev pub AgainstText : ModuleValue → List ℤ → Option (List ℕ) → ℕ → ℕ → Fault → Type 0
AgainstText m args known old new f =
    ((new ≡ old) × IsNotRun m args f) ⊎ (IsAccepted m × AreArguments m args × AgainstReading known old new f)

-- a list of which a line may not stand there, or a read of it that failed; of want of memory nothing is claimed
abbrev pub AgainstList : Option (List ℕ) → ℕ → ℕ → Fault → Type 0
AgainstList known old new fault.Device = Rose old new
AgainstList known old new fault.OutOfMemory = new ≡ old
AgainstList known old new (fault.NoOutcome line) = (new ≡ old) × OfSome known (λ bytes. stray_line (list_in bytes) ≡ Some line)
AgainstList known old new _ = ⊥

-- What stands against outcomes that are held against a list: the module isn't run with these arguments, and no list was read; or it is accepted, main
-- takes as many, and it is the list.
abbrev pub AgainstExpected : ModuleValue → List ℤ → Option (List ℕ) → ℕ → ℕ → Fault → Type 0
AgainstExpected m args known old new f =
    ((new ≡ old) × IsNotRun m args f) ⊎ (IsAccepted m × AreArguments m args × AgainstList known old new f)
