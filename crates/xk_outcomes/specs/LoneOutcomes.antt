-- Programs of which one run speaks for all: they have one outcome. This project's own.
use Rattle.std.specs.Prelude.{◌≡◌, ℕ, ℤ, ◌+◌, ◌/◌, ◌≤◌, ◌&&◌, Bool, true, false, List, [], ◌∷◌, is_none}
use Rattle.xk_types.specs.declared.world.Entry.{Entry}
use Rattle.xk_types.specs.Bound.{activities_bound, steps_bound}
use Rattle.xk_types.specs.Code.{ModuleValue}
use Rattle.xk_types.specs.World.{opening}
use Rattle.xk_scheduler.specs.Choosers.{Follows}
use Rattle.xk_scheduler.specs.WholeRuns.{IsLogThat, IsRunThat}
use Rattle.xk_races.specs.Races.{gap_in, is_race_free, sights_of_run}
use Rattle.xk_outcomes.specs.declared.listing.Outcome.{Outcome}
use Rattle.xk_outcomes.specs.declared.order.Order.{Order}
use Rattle.xk_outcomes.specs.declared.order.Order.TheVariants as order
use Rattle.xk_outcomes.specs.Listing.{AreAllIn, AreShownIn}

-- The run that a log stands for speaks for all: it has no race, and, where the order of its numbers counts, its prints are in one order.
abbrev pub speaks_for_all : Order → ModuleValue → List ℤ → List Entry → Bool
speaks_for_all order.Printed m args log = is_race_free m args log && is_none (gap_in (sights_of_run m args log))
speaks_for_all order.Rising m args log = is_race_free m args log

-- the outcome has a log that shows it, and every run to its end prints its numbers, told in this order
pub record IsLone (order : Order) (m : ModuleValue) (args : List ℤ) (o : Outcome) : Type 0 where
  pub shown : AreShownIn order m args (o ∷ [])
  pub all : AreAllIn order m args (o ∷ [])

-- no run has too many steps and activities to look for its races
abbrev pub IsShort : ModuleValue → Type 0
IsShort m = steps_bound m ≤ 10_000_000 / (1 + activities_bound m)

-- the run in the order `first` doesn't speak for all
abbrev pub IsFirstOfMany : Order → ModuleValue → List ℤ → Type 0
IsFirstOfMany order m args = (log : List Entry) × (numbers : List ℤ) × (steps : ℕ)
    × IsRunThat (IsLogThat (Follows {S = Unit {0}} (λ s enabled. 0) (λ s enabled. s) m tt (opening m args)) log) m args numbers steps
    × (speaks_for_all order m args log ≡ false)

-- so it is, unless runs are too long to look
abbrev pub IsOneOfMany : Order → ModuleValue → List ℤ → Type 0
IsOneOfMany order m args = IsShort m → IsFirstOfMany order m args

-- the same of outcomes as lists of numbers, or without their order
abbrev pub IsOneOfManyAs : Bool → ModuleValue → List ℤ → Type 0
IsOneOfManyAs false = IsOneOfMany order.Printed
IsOneOfManyAs true = IsOneOfMany order.Rising
