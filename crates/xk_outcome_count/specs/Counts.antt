-- How many outcomes a module has: different lists of numbers that its runs print by which all have ended. This project's own.
use Rattle.std.specs.Prelude.{◌≡◌, ℕ, ◌<◌, ◌≤◌, ◌⊎◌, ℤ, Bool, true, false, List, length, Some, slice_get}
use Rattle.xk_types.specs.Code.{ModuleValue}
use Rattle.xk_core.specs.Core.{opening_core}
use Rattle.xk_readings.specs.Beginnings.{HasMoreSets}
use Rattle.xk_readings.specs.Counts.{most_counted}
use Rattle.xk_readings.specs.Graphs.{graph}
use Rattle.xk_outcomes.specs.declared.all_outcomes.Limit.{Limit}
use Rattle.xk_outcomes.specs.declared.listing.Outcome.{Outcome}
use Rattle.xk_outcomes.specs.declared.order.Order.TheVariants as order
use Rattle.xk_outcomes.specs.declared.search.Explored.{Explored}
use Rattle.xk_outcomes.specs.Explored.{IsExplored}
use Rattle.xk_outcomes.specs.Links.{ends}
use Rattle.xk_outcomes.specs.Outcomes.{IsOutcome}
use Rattle.xk_outcomes.specs.Limits.{GoesFar}
use Rattle.xk_outcomes.specs.PlainRuns.{ArePlainListedAs}
use Rattle.xk_outcomes.specs.Sets.{AreDistinctAs, AreShownAs, HaveSameNumbers}

-- they are one outcome: the same numbers in the same order, or, where sets are counted, in any order
abbrev pub AreOne : Bool → List ℤ → List ℤ → Type 0
AreOne false xs ys = xs ≡ ys
AreOne true xs ys = HaveSameNumbers xs ys

-- some run prints this outcome by which all have ended
abbrev pub IsPrinted : Bool → ModuleValue → List ℤ → List ℤ → Type 0
IsPrinted sets m args outcome = (schedule : List ℕ) × (numbers : List ℤ) × IsOutcome m args schedule numbers × AreOne sets numbers outcome

-- some run prints each of these, and no two of them are one
pub record ArePrintedOnce (sets : Bool) (m : ModuleValue) (args : List ℤ) (outcomes : List (List ℤ)) : Type 0 where
  pub printed : (k : ℕ) (x : List ℤ) → slice_get outcomes k ≡ Some x → IsPrinted sets m args x
  pub once : (i j : ℕ) (x y : List ℤ) → slice_get outcomes i ≡ Some x → slice_get outcomes j ≡ Some y → AreOne sets x y → i ≡ j

-- whatever a run prints by which all have ended is one of these
abbrev pub AreAllPrinted : Bool → ModuleValue → List ℤ → List (List ℤ) → Type 0
AreAllPrinted sets m args outcomes = (schedule : List ℕ) (numbers : List ℤ) → IsOutcome m args schedule numbers
    → (k : ℕ) × (x : List ℤ) × (slice_get outcomes k ≡ Some x) × AreOne sets numbers x

-- there are at least so many
pub record AreAtLeast (sets : Bool) (m : ModuleValue) (args : List ℤ) (count : ℕ) : Type 0 where
  pub outcomes : List (List ℤ)
  pub once : ArePrintedOnce sets m args outcomes
  pub many : count ≤ length outcomes

-- there are so many, and no more
pub record AreAsMany (sets : Bool) (m : ModuleValue) (args : List ℤ) (count : ℕ) : Type 0 where
  pub outcomes : List (List ℤ)
  pub once : ArePrintedOnce sets m args outcomes
  pub all : AreAllPrinted sets m args outcomes
  pub many : count ≡ length outcomes

-- There is a list of outcomes that isn't said to be all, as `outcomes` promises it up to this limit: no more are listed than are counted.
pub record GoesAsFar (sets : Bool) (m : ModuleValue) (args : List ℤ) (limit : Limit) (count : ℕ) : Type 0 where
  pub list : List Outcome
  pub shown : AreShownAs sets m args list
  pub distinct : AreDistinctAs sets list
  pub plain : ArePlainListedAs sets m args list
  pub far : GoesFar m args sets limit list false
  pub many : length list ≤ count

-- Lists are counted along the links of a search from where the runs begin, up to this limit. That doesn't tell how many there are: more
-- worlds were kept than the limit says, or the sets of worlds on which one may stand behind some numbers are more, or the most is counted.
pub record IsCutOff (m : ModuleValue) (args : List ℤ) (limit count : ℕ) : Type 0 where
  pub explored : Explored
  pub is : IsExplored order.Printed (opening_core m args) limit explored
  pub cut : (limit < length explored.found.all)
      ⊎ (HasMoreSets (graph explored.links.items (ends explored.found.all)) limit ⊎ (most_counted ≤ count))
