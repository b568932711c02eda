-- Logs and lists whose bytes may be known, and what stands against reading them.
use Rattle.std.proofs.Common.{◌≡◌, ◌≢◌, ◌≤◌, true}
use Rattle.std.proofs.Common.{ℕ, ℤ, List, [], length, take, Option, Some, None, Result, Ok, Err, IfErr, inr, subst, sym}
use Rattle.std.specs.Prelude.{IfSome}
use Rattle.std.proofs.lemmas.List.{take_all}
use Rattle.xk_log.specs.Reading.{CountsDevice, Tells}
use Rattle.xk_log.specs.SomeBytes.{OfSome}
use Rattle.xk_log.specs.declared.fault.LogFault.{LogFault}
use Rattle.xk_log.specs.declared.fault.LogFault.TheVariants as log
use Rattle.xk_types.specs.declared.world.Entry.{Entry}
use Rattle.xk_types.specs.Acceptance.{IsAccepted}
use Rattle.xk_types.specs.Code.{ModuleValue}
use Rattle.xk_types.specs.World.{AreArguments}
use Rattle.xk_replay.specs.declared.fault.ReplayFault.{ReplayFault}
use Rattle.xk_replay.specs.declared.fault.ReplayFault.TheVariants as replay
use Rattle.xk_replay.specs.Replay.{IsFaultOf, IsStop}
use Rattle.xk_answers.specs.declared.job_result.Done.{Done}
use Rattle.xk_program.specs.declared.fault.Fault.{Fault}
use Rattle.xk_program.specs.declared.fault.Fault.TheVariants as fault
use Rattle.xk_answers.specs.declared.picture.Picture.{Picture}
use Rattle.xk_answers.specs.Results.{IsLogText, is_of_whole}
use Rattle.xk_program.specs.Faults.{of_log, of_replay}
use Rattle.xk_program.specs.Refusals.{IsNotRun}
use Rattle.xk_answers.specs.Refusals.{AgainstExpected, AgainstList, AgainstModule, AgainstReading, AgainstRun, AgainstText, MayStand}

-- ---- logs that may be known

-- what follows for each list follows for the one that is known
pub of_each : (P Q : List ℕ → Type 0) (known : Option (List ℕ)) → ((xs : List ℕ) → P xs → Q xs) → IfSome known P → IfSome known Q
of_each P Q None f h = tt
of_each P Q (Some xs) f h = f xs h

-- what holds of each list holds of the one that is known, or else of some
pub some_any : (P : List ℕ → Type 0) (known : Option (List ℕ)) → ((xs : List ℕ) → P xs) → OfSome known P
some_any P None h = ([], h [])
some_any P (Some xs) h = h xs

-- what follows for each list follows for the one that is known, or else for some
pub some_each : (P Q : List ℕ → Type 0) (known : Option (List ℕ)) → ((xs : List ℕ) → P xs → Q xs) → OfSome known P → OfSome known Q
some_each P Q None f h = (h.0, f h.0 h.1)
some_each P Q (Some xs) f h = f xs h

-- what holds of some holds of the one that is known, if any is
pub if_known : (P : List ℕ → Type 0) (known : Option (List ℕ)) → OfSome known P → IfSome known P
if_known P None h = tt
if_known P (Some xs) h = h

-- bytes that were read up to a limit are the front of some
pub front_of : (known : Option (List ℕ)) (most : ℕ) (bytes : List ℕ) → length bytes ≤ most → IfSome known (λ all. bytes ≡ take most all)
    → OfSome known (λ all. bytes ≡ take most all)
front_of None most bytes few h = (bytes, sym (take_all most bytes few))
front_of (Some all) most bytes few h = h

-- ---- the verifier

-- what stands against a run by a log of the module that it accepted
pub run_stands : (m v : ModuleValue) (args : List ℤ) (known : Option (List ℕ)) (old new : ℕ) (r : Result Done Fault) → v ≡ m → IsAccepted m → AreArguments m args
    → IfErr r (AgainstRun v args known old new) → IfErr r (AgainstModule m args known old new)
run_stands m v args known old new (Ok d) is accepted taken h = tt
run_stands m v args known old new (Err f) is accepted taken h = inr (accepted, taken, subst (λ x. AgainstRun x args known old new f) is h)

-- what stands against reading the text of a log, where the module is run
pub text_stands : (m : ModuleValue) (args : List ℤ) (known : Option (List ℕ)) (old new : ℕ) (r : Result Done Fault) → IsAccepted m → AreArguments m args
    → IfErr r (AgainstReading known old new) → IfErr r (AgainstText m args known old new)
text_stands m args known old new (Ok d) accepted taken h = tt
text_stands m args known old new (Err f) accepted taken h = inr (accepted, taken, h)

-- what stands against a list, where the module is run
pub list_stands : (m : ModuleValue) (args : List ℤ) (known : Option (List ℕ)) (old new : ℕ) (r : Result Done Fault) → IsAccepted m → AreArguments m args
    → IfErr r (AgainstList known old new) → IfErr r (AgainstExpected m args known old new)
list_stands m args known old new (Ok d) accepted taken h = tt
list_stands m args known old new (Err f) accepted taken h = inr (accepted, taken, h)

-- a log that was read, and is none of a whole run
pub replay_stands : (m : ModuleValue) (args : List ℤ) (known : Option (List ℕ)) (old new : ℕ) (es : List Entry) (f : ReplayFault) → new ≡ old
    → OfSome known (λ logged. IsLogText logged es) → IsFaultOf m args es f → AgainstRun m args known old new (of_replay f)
replay_stands m args known old new es (replay.NotEnabled i) e text h = (e, some_each _ _ known (λ logged t. (es, t, h)) text)
replay_stands m args known old new es replay.NotEnded e text h = (e, some_each _ _ known (λ logged t. (es, t, h)) text)
replay_stands m args known old new es replay.OutOfMemory e text h = (e, some_any _ known (λ logged. tt))

-- ---- logs that stop before the run does

-- nothing of what stops a log, or stands against its text or the module, is that
pub stop_goes_on : (m : ModuleValue) (args : List ℤ) (es : List Entry) (f : ReplayFault) → IsStop m args es f → of_replay f ≢ fault.NotEnded
stop_goes_on m args es (replay.NotEnabled i) stop e = cc
stop_goes_on m args es replay.NotEnded stop e = stop
stop_goes_on m args es replay.OutOfMemory stop e = cc

pub text_goes_on : (f : LogFault) → of_log f ≢ fault.NotEnded
text_goes_on (log.Grammar line) e = cc
text_goes_on log.Truncated e = cc
text_goes_on log.Device e = cc
text_goes_on log.OutOfMemory e = cc

pub module_goes_on : (m : ModuleValue) (args : List ℤ) (f : Fault) → IsNotRun m args f → f ≢ fault.NotEnded
module_goes_on m args f is e = subst (IsNotRun m args) e is

-- whatever stands against a log may stand against a picture of whole runs
pub any_stands : (p : Picture) (r : Result Done Fault) → is_of_whole p ≡ true → IfErr r (MayStand p)
any_stands p (Ok d) whole = tt
any_stands p (Err f) whole = λ stops. whole

-- and against any what isn't that it stops before the run does
pub going_stands : (p : Picture) (f : Fault) → f ≢ fault.NotEnded → MayStand p f
going_stands p f goes stops = absurd (goes stops)

pub memory_stands : (p : Picture) → MayStand p fault.OutOfMemory
memory_stands p stops = cc

-- bytes that are the text of no log
pub reading_stands : (known : Option (List ℕ)) (old new : ℕ) (f : LogFault) → CountsDevice old new (Err f) → OfSome known (λ text. Tells text (Err f))
    → AgainstReading known old new (of_log f)
reading_stands known old new (log.Grammar line) e h = (e, h)
reading_stands known old new log.Truncated e h = (e, h)
reading_stands known old new log.Device e h = e
reading_stands known old new log.OutOfMemory e h = e

pub log_stands : (m : ModuleValue) (args : List ℤ) (known : Option (List ℕ)) (old new : ℕ) (f : LogFault) → CountsDevice old new (Err f)
    → OfSome known (λ text. Tells text (Err f)) → AgainstRun m args known old new (of_log f)
log_stands m args known old new (log.Grammar line) e h = (e, h)
log_stands m args known old new log.Truncated e h = (e, h)
log_stands m args known old new log.Device e h = e
log_stands m args known old new log.OutOfMemory e h = (e, some_any _ known (λ logged. tt))
