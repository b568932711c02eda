-- The runs that are made before any search: in the orders `first`, `last` and `round`, and by chance from the seeds 1 to 16. X10 Language
-- Specification 2.4, chapter Activities, leaves the order of steps open; that these are looked at first is this project's own.
use Rattle.std.specs.Prelude.{◌≡◌, ℕ, ℤ, ◌+◌, ◌-◌, ◌≤◌, Bool, true, false, List, length, None}
use Rattle.xk_types.specs.Code.{ModuleValue}
use Rattle.xk_scheduler.specs.Choosers.{turn_after, turn_of}
use Rattle.xk_scheduler.specs.WholeRuns.{IsLogThat, IsRunBy, IsRunThat}
use Rattle.xk_random.specs.Chance.{chance_after, chance_answer, chance_of}
use Rattle.xk_outcomes.specs.declared.listing.Outcome.{Outcome}
use Rattle.xk_outcomes.specs.declared.order.Order.{Order}
use Rattle.xk_outcomes.specs.Listing.{AreShownIn, KeepsListed}
use Rattle.xk_outcomes.specs.Outcomes.{AreDistinct, IsListed}
use Rattle.xk_outcomes.specs.Rising.{ordered}
use Rattle.xk_outcomes.specs.Sets.{IsSetListed}

-- from how many seeds there is a run by chance: 1, 2 and so on
abbrev pub plain_seeds : ℕ
plain_seeds = 16

-- how many such runs there are: one in each of three orders, and one for each seed
abbrev pub plain_runs : ℕ
plain_runs = 19

-- this holds of the numbers that such a run prints
abbrev pub OfPrinted : (List ℤ → ℕ → Type 0) → (List ℤ → Type 0) → Type 0
OfPrinted Runs P = (numbers : List ℤ) × (steps : ℕ) × Runs numbers steps × P numbers

-- This holds of the numbers that each of the plain runs prints: each step is taken by the least enabled activity; by the greatest; by the
-- least of greater number than the one that was taken before, else the least; by whoever is drawn from the seed.
pub record OfPlainRuns (m : ModuleValue) (args : List ℤ) (P : List ℤ → Type 0) : Type 0 where
  pub first : OfPrinted (IsRunBy {S = Unit {0}} (λ s enabled. 0) (λ s enabled. s) m args tt) P
  pub last : OfPrinted (IsRunBy {S = Unit {0}} (λ s enabled. length enabled - 1) (λ s enabled. s) m args tt) P
  pub round : OfPrinted (IsRunBy turn_of turn_after m args None) P
  pub chance : (seed : ℕ) → 1 ≤ seed → seed ≤ plain_seeds → OfPrinted (IsRunBy chance_answer chance_after m args (chance_of seed)) P

-- what each of them prints is listed, in this order, or in some order
abbrev pub ArePlainListedAs : Bool → ModuleValue → List ℤ → List Outcome → Type 0
ArePlainListedAs false m args list = OfPlainRuns m args (IsListed list)
ArePlainListedAs true m args list = OfPlainRuns m args (IsSetListed list)

-- ---- told in an order

-- the outcome is what the run by a list prints of which this holds, told in this order, and has its log
pub record IsOutcomeOf (order : Order) (Has : List ℕ → Type 0) (m : ModuleValue) (args : List ℤ) (o : Outcome) : Type 0 where
  pub printed : List ℤ
  pub steps : ℕ
  pub run : IsRunThat (IsLogThat Has o.log.items) m args printed steps
  pub told : o.numbers.items ≡ ordered order printed

-- the numbers are listed, told in this order
abbrev pub IsListedIn : Order → List Outcome → List ℤ → Type 0
IsListedIn order list numbers = IsListed list (ordered order numbers)

-- what each of the plain runs prints is listed, told in this order
abbrev pub ArePlainListedIn : Order → ModuleValue → List ℤ → List Outcome → Type 0
ArePlainListedIn order m args list = OfPlainRuns m args (IsListedIn order list)

-- At most so many more are listed: what was listed still is, none is listed twice, and each has a log that shows its numbers, if so it
-- was before.
pub record ListsMore (order : Order) (m : ModuleValue) (args : List ℤ) (most : ℕ) (old new : List Outcome) : Type 0 where
  pub distinct : AreDistinct old → AreDistinct new
  pub shown : AreShownIn order m args old → AreShownIn order m args new
  pub kept : KeepsListed old new
  pub few : length new ≤ length old + most
