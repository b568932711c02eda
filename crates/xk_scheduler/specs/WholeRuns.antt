-- Runs of a module to their end, and what they print. This project's own.
use Rattle.std.specs.Prelude.{◌≡◌, ℕ, ℤ, All, List, true}
use Rattle.xk_types.specs.declared.world.Entry.{Entry}
use Rattle.xk_types.specs.Code.{ModuleValue}
use Rattle.xk_types.specs.World.{World, opening}
use Rattle.xk_types.specs.Schedule.{Leads, all_ended, printed}
use Rattle.xk_types.specs.Logs.{schedule_of}
use Rattle.xk_scheduler.specs.Choosers.{Follows}

-- A list of which this holds leads from the opening world with these arguments, as many as main takes, to one in which all have ended,
-- prints these numbers, and takes so many steps.
pub record IsRunThat (Has : List ℕ → Type 0) (m : ModuleValue) (args numbers : List ℤ) (steps : ℕ) : Type 0 where
  pub list : List ℕ
  pub last : World
  pub follows : Has list
  pub leads : Leads m list last
  pub given : last.arguments ≡ args
  pub over : all_ended last ≡ true
  pub numbers_are : numbers ≡ printed m list (opening m args)
  pub steps_are : steps ≡ last.steps

-- whoever is chosen takes each step, from the state b of the chooser on: such a run prints these numbers, and takes so many steps
abbrev pub IsRunBy : {S : Type 0} → (S → List ℕ → ℕ) → (S → List ℕ → S) → ModuleValue → List ℤ → S → List ℤ → ℕ → Type 0
IsRunBy answer after m args b = IsRunThat (Follows answer after m b (opening m args)) m args

-- A log of a run that follows this: an entry for each step.
pub record IsLogThat (Has : List ℕ → Type 0) (log : List Entry) (list : List ℕ) : Type 0 where
  pub follows : Has list
  pub stands_for : list ≡ schedule_of log
  pub single : All (λ e. e.steps ≡ 1) log
