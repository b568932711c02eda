-- What is listed of what was found. This project's own.
use Rattle.std.specs.Prelude.{◌≡◌, ℕ, ℤ, ◌<◌, ◌⊎◌, true, List, length, Some, slice_get}
use Rattle.xk_types.specs.Code.{ModuleValue}
use Rattle.xk_types.specs.World.{World, opening}
use Rattle.xk_types.specs.Schedule.{Through, run, all_ended, printed}
use Rattle.xk_types.specs.Logs.{schedule_of}
use Rattle.xk_ranks.specs.Reads.{Counting, IsCounting}
use Rattle.xk_outcomes.specs.Alikeness.{AreAsOne}
use Rattle.xk_core.specs.Core.{CoreValue}
use Rattle.xk_readings.specs.declared.edge.Edge.{Edge}
use Rattle.xk_readings.specs.declared.listing.Reading.{Reading}
use Rattle.xk_readings.specs.Graphs.{graph}
use Rattle.xk_readings.specs.Readings.{Reads}
use Rattle.xk_outcomes.specs.Found.{FoundValue, first_found, through}
use Rattle.xk_outcomes.specs.Ways.{steps_of}
use Rattle.xk_outcomes.specs.Links.{LeadTo, ends}
use Rattle.xk_outcomes.specs.declared.listing.Outcome.{Outcome}
use Rattle.xk_outcomes.specs.declared.order.Order.{Order}
use Rattle.xk_outcomes.specs.Outcomes.{IsAtRest, IsListed, IsOutcome}
use Rattle.xk_outcomes.specs.Rising.{key, ordered}
use Rattle.xk_outcomes.specs.Search.{IsFoundBy}

-- all have ended in what was found, and this has its numbers, in the order in which they are told, and a log of this schedule
pub record IsOf (order : Order) (schedule : List ℕ) (x : FoundValue) (o : Outcome) : Type 0 where
  pub over : all_ended x.core.world ≡ true
  pub numbers : o.numbers.items ≡ ordered order x.printed
  pub log : schedule_of o.log.items ≡ schedule

-- each that is listed was before, at the same place, or is of one that was found from this start, with a schedule that leads there
abbrev pub AreOf : Order → CoreValue → List Outcome → List Outcome → Type 0
AreOf order start old list = (k : ℕ) (o : Outcome) → slice_get list k ≡ Some o
    → (slice_get old k ≡ Some o)
    ⊎ ((x : FoundValue) × (schedule : List ℕ) × IsFoundBy start schedule x × IsOf order schedule x o)

-- of those before this place, what the ones print in which all have ended is listed
abbrev pub AreNoted : Order → List FoundValue → ℕ → List Outcome → Type 0
AreNoted order all place list = (j : ℕ) (x : FoundValue) → j < place → slice_get all j ≡ Some x → all_ended x.core.world ≡ true
    → IsListed list (ordered order x.printed)

-- steps of activities of these ranks lead from the first one to where all have ended, and print these numbers
pub record IsPlayed (start : CoreValue) (acts : List ℕ) (numbers : List ℤ) : Type 0 where
  pub ended : all_ended (through acts (first_found start)).core.world ≡ true
  pub prints : (through acts (first_found start)).printed ≡ numbers

-- whatever can be read along the links is played so, by their ways
abbrev pub ArePlayed : CoreValue → List (List ℕ) → List FoundValue → List Edge → Type 0
ArePlayed start ways all links = (n : ℕ) (acts : List ℕ) (numbers : List ℤ) → Reads (graph links (ends all)) n 0 acts numbers
    → IsPlayed start (steps_of ways acts) numbers

-- whatever can be read along the links is listed
abbrev pub AreRead : List FoundValue → List Edge → List Outcome → Type 0
AreRead all links list = (n : ℕ) (acts : List ℕ) (numbers : List ℤ) → Reads (graph links (ends all)) n 0 acts numbers
    → IsListed list numbers

-- of the readings before this place, those that are played so are listed
abbrev pub AreReadingsPut : CoreValue → List (List ℕ) → List Reading → ℕ → List Outcome → Type 0
AreReadingsPut start ways found place list = (i : ℕ) (r : Reading) → i < place → slice_get found i ≡ Some r
    → IsPlayed start (steps_of ways r.acts.items) r.numbers.items
    → IsListed list r.numbers.items

-- whatever stands along links to one of them in which all have ended is listed, as it is told in this order
abbrev pub AreMet : Order → List FoundValue → List Edge → List Outcome → Type 0
AreMet order all links list = (k : ℕ) (x : FoundValue) (numbers : List ℤ) → slice_get all k ≡ Some x → all_ended x.core.world ≡ true
    → key order x.printed ≡ key order numbers → LeadTo links k numbers → IsListed list (ordered order numbers)

-- what was listed is
abbrev pub KeepsListed : List Outcome → List Outcome → Type 0
KeepsListed old new = (numbers : List ℤ) → IsListed old numbers → IsListed new numbers

-- each that is listed has a log that shows its numbers, which are told in this order
abbrev pub AreShownIn : Order → ModuleValue → List ℤ → List Outcome → Type 0
AreShownIn order m args list = (k : ℕ) (x : Outcome) → slice_get list k ≡ Some x
    → (numbers : List ℤ) × IsOutcome m args (schedule_of x.log.items) numbers × (x.numbers.items ≡ ordered order numbers)

-- whatever a legal schedule prints after which all have ended is listed, told in this order
abbrev pub AreAllIn : Order → ModuleValue → List ℤ → List Outcome → Type 0
AreAllIn order m args list = (schedule : List ℕ) (numbers : List ℤ) → IsOutcome m args schedule numbers
    → IsListed list (ordered order numbers)

-- what these schedules print after which all have ended is listed, told in this order
abbrev pub AreEndsListedIn : Order → ModuleValue → List ℤ → List (List ℕ) → List Outcome → Type 0
AreEndsListedIn order m args schedules list = (k : ℕ) (p : List ℕ) (numbers : List ℤ) → slice_get schedules k ≡ Some p
    → IsOutcome m args p numbers
    → IsListed list (ordered order numbers)

-- These schedules are legal and lead to worlds at rest, and no two of them lead to worlds that are alike in what counts, or so by rank
-- as far as a core tells, or in which all have ended, unless what is printed on the way tells them apart.
pub record AreApartIn (counts : Counting) (order : Order) (m : ModuleValue) (args : List ℤ) (schedules : List (List ℕ)) : Type 0 where
  pub legal : (k : ℕ) (p : List ℕ) → slice_get schedules k ≡ Some p → (w : World) × (run m p (opening m args) ≡ Through w) × IsAtRest m w
  pub apart : (i j : ℕ) (p q : List ℕ) (w v : World) → slice_get schedules i ≡ Some p → slice_get schedules j ≡ Some q
      → run m p (opening m args) ≡ Through w → run m q (opening m args) ≡ Through v
      → AreAsOne counts w v → key order (printed m p (opening m args)) ≡ key order (printed m q (opening m args)) → i ≡ j

-- So many worlds at rest were kept, by tables that have all that counts, and what is printed by the ones in which all have ended is listed,
-- unless as many are listed as the limit says.
pub record HasKeptIn (order : Order) (m : ModuleValue) (args : List ℤ) (limit : ℕ) (list : List Outcome) (entries : ℕ) : Type 0 where
  pub schedules : List (List ℕ)
  pub many : length schedules ≡ entries
  pub counts : Counting
  pub counting : IsCounting m counts
  pub apart : AreApartIn counts order m args schedules
  pub ends : length list < limit → AreEndsListedIn order m args schedules list
