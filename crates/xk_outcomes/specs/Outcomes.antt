-- What the runs of a module print: all that a program can print, in whichever order its activities take their steps. X10 Language
-- Specification 2.4, chapter Activities, leaves that order open, and the program ends when all have ended (Initial activity).
use Rattle.std.specs.Prelude.{◌≡◌, ℕ, ℤ, true, false, List, Some, slice_get}
use Rattle.xk_types.specs.Code.{ModuleValue}
use Rattle.xk_types.specs.World.{World, opening}
use Rattle.xk_types.specs.Schedule.{Through, run, all_ended, printed}
use Rattle.xk_types.specs.Logs.{schedule_of}
use Rattle.xk_ranks.specs.Reads.{Counting}
use Rattle.xk_outcomes.specs.Alikeness.{AreAsOne}
use Rattle.xk_outcomes.specs.PrivateSteps.{has_private_step}
use Rattle.xk_outcomes.specs.declared.listing.Outcome.{Outcome}

-- a legal schedule of the module with these arguments, after which all have ended, and which prints these numbers
pub record IsOutcome (m : ModuleValue) (args : List ℤ) (list : List ℕ) (numbers : List ℤ) : Type 0 where
  pub last : World
  pub legal : run m list (opening m args) ≡ Through last
  pub over : all_ended last ≡ true
  pub prints : printed m list (opening m args) ≡ numbers

-- each that is listed has a log that shows it
abbrev pub AreShown : ModuleValue → List ℤ → List Outcome → Type 0
AreShown m args list = (k : ℕ) (x : Outcome) → slice_get list k ≡ Some x → IsOutcome m args (schedule_of x.log.items) x.numbers.items

-- no numbers are listed twice
abbrev pub AreDistinct : List Outcome → Type 0
AreDistinct list = (i j : ℕ) (x y : Outcome) → slice_get list i ≡ Some x → slice_get list j ≡ Some y
    → x.numbers.items ≡ y.numbers.items → i ≡ j

-- these numbers are listed
abbrev pub IsListed : List Outcome → List ℤ → Type 0
IsListed list numbers = (k : ℕ) × (x : Outcome) × (slice_get list k ≡ Some x) × (x.numbers.items ≡ numbers)

-- whatever a legal schedule prints after which all have ended is listed
abbrev pub AreAll : ModuleValue → List ℤ → List Outcome → Type 0
AreAll m args list = (schedule : List ℕ) (numbers : List ℤ) → IsOutcome m args schedule numbers → IsListed list numbers

-- ---- how far a search went

-- nobody has a private step: whoever can take a step is about to print, or to read or change a shared number
abbrev pub IsAtRest : ModuleValue → World → Type 0
IsAtRest m w = (a : ℕ) → has_private_step m w a ≡ false

-- These schedules are legal and lead to worlds at rest, and no two of them lead to worlds that are alike in what counts (which differ at
-- most in dead slots, in frames of activities that have ended, in numbers of steps and in phases, and in shared numbers that nobody can read
-- any more), or so by rank as far as a core tells (who has ended is left out then); and no two to worlds in which all have ended.
pub record AreApart (counts : Counting) (m : ModuleValue) (args : List ℤ) (schedules : List (List ℕ)) : Type 0 where
  pub legal : (k : ℕ) (p : List ℕ) → slice_get schedules k ≡ Some p → (w : World) × (run m p (opening m args) ≡ Through w) × IsAtRest m w
  pub apart : (i j : ℕ) (p q : List ℕ) (w v : World) → slice_get schedules i ≡ Some p → slice_get schedules j ≡ Some q
      → run m p (opening m args) ≡ Through w → run m q (opening m args) ≡ Through v
      → AreAsOne counts w v → i ≡ j

-- what these schedules print after which all have ended is listed
abbrev pub AreEndsListed : ModuleValue → List ℤ → List (List ℕ) → List Outcome → Type 0
AreEndsListed m args schedules list = (k : ℕ) (p : List ℕ) (numbers : List ℤ) → slice_get schedules k ≡ Some p
    → IsOutcome m args p numbers → IsListed list numbers
