-- In which order outcomes are numbered. This project's own.
use Rattle.std.specs.Prelude.{◌≡◌, ℕ, ◌<◌, ◌≤◌, ◌⊎◌, ℤ, Bool, true, false, List, [], ◌∷◌, ◌++◌, Some, slice_get}
use Rattle.xk_types.specs.Code.{ModuleValue}
use Rattle.xk_readings.specs.declared.edge.Edge.{Edge}
use Rattle.xk_readings.specs.declared.listing.Reading.{Reading}
use Rattle.xk_readings.specs.Graphs.{graph}
use Rattle.xk_readings.specs.Readings.{Reads}
use Rattle.xk_readings.specs.Rising.{ComesBefore}
use Rattle.xk_core.specs.Core.{CoreValue}
use Rattle.xk_outcomes.specs.Found.{FoundValue}
use Rattle.xk_outcomes.specs.Ways.{steps_of}
use Rattle.xk_outcomes.specs.Links.{ends}
use Rattle.xk_outcomes.specs.Listing.{IsPlayed}
use Rattle.xk_outcomes.specs.declared.listing.Outcome.{Outcome}
use Rattle.xk_outcomes.specs.declared.order.Order.{Order}
use Rattle.xk_outcomes.specs.declared.order.Order.TheVariants as order
use Rattle.xk_outcomes.specs.Outcomes.{IsListed, IsOutcome}
use Rattle.xk_outcomes.specs.PlainRuns.{plain_runs}

-- from this place on each comes before those behind it, as lists of numbers: a list before those that go on behind it, and else the one that
-- has the lesser number where they first differ
abbrev pub AreRisingFrom : ℕ → List Outcome → Type 0
AreRisingFrom place list = (i j : ℕ) (x y : Outcome) → place ≤ i → i < j → slice_get list i ≡ Some x → slice_get list j ≡ Some y
    → ComesBefore x.numbers.items y.numbers.items

-- all from this place on come before the numbers
abbrev pub AreBefore : ℕ → List Outcome → List ℤ → Type 0
AreBefore place list numbers = (i : ℕ) (x : Outcome) → place ≤ i → slice_get list i ≡ Some x → ComesBefore x.numbers.items numbers

-- The outcomes behind those that the plain runs print rise. If no more worlds are kept than the limit says, whatever else is printed comes
-- behind them: so more of them, where more may be told, are told behind these.
pub record AreNumbered (m : ModuleValue) (args : List ℤ) (limit : ℕ) (list : List Outcome) (entries : ℕ) : Type 0 where
  pub place : ℕ
  pub few : place ≤ plain_runs
  pub rising : AreRisingFrom place list
  pub first : entries ≤ limit → (schedule : List ℕ) (numbers : List ℤ) → IsOutcome m args schedule numbers
      → IsListed list numbers ⊎ AreBefore place list numbers

-- so it is where outcomes are lists of numbers
abbrev pub AreNumberedIn : Order → ModuleValue → List ℤ → ℕ → List Outcome → ℕ → Type 0
AreNumberedIn order.Printed m args limit list entries = AreNumbered m args limit list entries
AreNumberedIn order.Rising m args limit list entries = Unit {0}

abbrev pub AreNumberedAs : Bool → ModuleValue → List ℤ → ℕ → List Outcome → ℕ → Type 0
AreNumberedAs false m args limit list entries = AreNumbered m args limit list entries
AreNumberedAs true m args limit list entries = Unit {0}

-- ---- what is read along links

-- the numbers are listed behind the others, or nothing is
abbrev pub IsAddedAs : List ℤ → List Outcome → List Outcome → Type 0
IsAddedAs numbers old new = (new ≡ old) ⊎ ((o : Outcome) × (new ≡ old ++ o ∷ []) × (o.numbers.items ≡ numbers))

-- the steps of its ways print the numbers of each reading
abbrev pub ArePlayedAll : CoreValue → List (List ℕ) → List Reading → Type 0
ArePlayedAll start ways found =
    (i : ℕ) (r : Reading) → slice_get found i ≡ Some r → IsPlayed start (steps_of ways r.acts.items) r.numbers.items

-- from a place on those are listed that are among the readings before another one
abbrev pub AreAddedFrom : List Reading → ℕ → ℕ → List Outcome → Type 0
AreAddedFrom found place from list = (k : ℕ) (o : Outcome) → from ≤ k → slice_get list k ≡ Some o
    → (i : ℕ) × (r : Reading) × (i < place) × (slice_get found i ≡ Some r) × (o.numbers.items ≡ r.numbers.items)

-- each reading is listed, or comes behind all from the place on
abbrev pub AreReadingsFirst : List Reading → ℕ → List Outcome → Type 0
AreReadingsFirst found from list = (i : ℕ) (r : Reading) → slice_get found i ≡ Some r
    → IsListed list r.numbers.items ⊎ AreBefore from list r.numbers.items

-- so it is of whatever can be read along the links, and from the place on they rise
pub record AreInOrder (all : List FoundValue) (links : List Edge) (place : ℕ) (list : List Outcome) : Type 0 where
  pub rising : AreRisingFrom place list
  pub first : (n : ℕ) (acts : List ℕ) (numbers : List ℤ) → Reads (graph links (ends all)) n 0 acts numbers
      → IsListed list numbers ⊎ AreBefore place list numbers

-- where outcomes are lists of numbers
abbrev pub AreInOrderIn : Order → List FoundValue → List Edge → ℕ → List Outcome → Type 0
AreInOrderIn order.Printed all links place list = AreInOrder all links place list
AreInOrderIn order.Rising all links place list = Unit {0}
