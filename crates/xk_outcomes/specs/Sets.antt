-- What the runs of a module print, where the order of the numbers doesn't count.
use Rattle.std.specs.Prelude.{◌≡◌, ℕ, ℤ, ◌≤ℤ◌, Bool, true, false, List, [], ◌∷◌, Some, slice_get, count_by}
use Rattle.std.specs.Ordering.{int_eq}
use Rattle.xk_types.specs.Code.{ModuleValue}
use Rattle.xk_types.specs.World.{World, opening}
use Rattle.xk_types.specs.Schedule.{Through, run, printed}
use Rattle.xk_types.specs.Logs.{schedule_of}
use Rattle.xk_ranks.specs.Reads.{Counting}
use Rattle.xk_outcomes.specs.Alikeness.{AreAsOne}
use Rattle.xk_outcomes.specs.declared.listing.Outcome.{Outcome}
use Rattle.xk_outcomes.specs.Outcomes.{AreAll, AreApart, AreDistinct, AreEndsListed, AreShown, IsAtRest, IsOutcome}

-- the same numbers, each as often, in whatever order
abbrev pub HaveSameNumbers : List ℤ → List ℤ → Type 0
HaveSameNumbers xs ys = (n : ℤ) → count_by (int_eq n) xs ≡ count_by (int_eq n) ys

-- each is at least x
abbrev pub AreAtLeast : ℤ → List ℤ → Type 0
AreAtLeast x [] = Unit {0}
AreAtLeast x (y ∷ ys) = (x ≤ℤ y) × AreAtLeast x ys

-- none is greater than one behind it
abbrev pub IsRising : List ℤ → Type 0
IsRising [] = Unit {0}
IsRising (x ∷ xs) = AreAtLeast x xs × IsRising xs

-- each that is listed rises, and has a log that shows these numbers in some order
abbrev pub AreSetsShown : ModuleValue → List ℤ → List Outcome → Type 0
AreSetsShown m args list = (k : ℕ) (x : Outcome) → slice_get list k ≡ Some x
    → IsRising x.numbers.items × (numbers : List ℤ) × IsOutcome m args (schedule_of x.log.items) numbers × HaveSameNumbers numbers x.numbers.items

-- no numbers are listed twice, in whatever order
abbrev pub AreSetsDistinct : List Outcome → Type 0
AreSetsDistinct list = (i j : ℕ) (x y : Outcome) → slice_get list i ≡ Some x → slice_get list j ≡ Some y
    → HaveSameNumbers x.numbers.items y.numbers.items → i ≡ j

-- these numbers are listed, in some order
abbrev pub IsSetListed : List Outcome → List ℤ → Type 0
IsSetListed list numbers = (k : ℕ) × (x : Outcome) × (slice_get list k ≡ Some x) × HaveSameNumbers numbers x.numbers.items

-- whatever a legal schedule prints after which all have ended is listed, in some order
abbrev pub AreSetsAll : ModuleValue → List ℤ → List Outcome → Type 0
AreSetsAll m args list = (schedule : List ℕ) (numbers : List ℤ) → IsOutcome m args schedule numbers → IsSetListed list numbers

-- what these schedules print after which all have ended is listed, in some order
abbrev pub AreEndsSetListed : ModuleValue → List ℤ → List (List ℕ) → List Outcome → Type 0
AreEndsSetListed m args schedules list = (k : ℕ) (p : List ℕ) (numbers : List ℤ) → slice_get schedules k ≡ Some p
    → IsOutcome m args p numbers → IsSetListed list numbers

-- These schedules are legal and lead to worlds at rest, and no two of them lead to worlds that are alike in what counts, or so by rank
-- as far as a core tells, or in which all have ended, and print the same numbers on the way, in whatever order.
pub record AreSetsApart (counts : Counting) (m : ModuleValue) (args : List ℤ) (schedules : List (List ℕ)) : Type 0 where
  pub legal : (k : ℕ) (p : List ℕ) → slice_get schedules k ≡ Some p → (w : World) × (run m p (opening m args) ≡ Through w) × IsAtRest m w
  pub apart : (i j : ℕ) (p q : List ℕ) (w v : World) → slice_get schedules i ≡ Some p → slice_get schedules j ≡ Some q
      → run m p (opening m args) ≡ Through w → run m q (opening m args) ≡ Through v
      → AreAsOne counts w v → HaveSameNumbers (printed m p (opening m args)) (printed m q (opening m args)) → i ≡ j

-- ---- as lists of numbers, or without their order

-- the numbers that are told are printed in a run to its end, which has the log beside them: in this order, or in some order
abbrev pub AreShownAs : Bool → ModuleValue → List ℤ → List Outcome → Type 0
AreShownAs false = AreShown
AreShownAs true = AreSetsShown

-- none are told twice, in this order, or in any order
abbrev pub AreDistinctAs : Bool → List Outcome → Type 0
AreDistinctAs false = AreDistinct
AreDistinctAs true = AreSetsDistinct

-- every run to its end prints some that are told, in this order, or in some order
abbrev pub AreAllAs : Bool → ModuleValue → List ℤ → List Outcome → Type 0
AreAllAs false = AreAll
AreAllAs true = AreSetsAll

-- what these schedules print to their end is told, in this order, or in some order
abbrev pub AreEndsListedAs : Bool → ModuleValue → List ℤ → List (List ℕ) → List Outcome → Type 0
AreEndsListedAs false = AreEndsListed
AreEndsListedAs true = AreEndsSetListed

-- these schedules lead to worlds at rest that are kept apart, as lists of numbers or without their order
abbrev pub AreApartAs : Bool → Counting → ModuleValue → List ℤ → List (List ℕ) → Type 0
AreApartAs false = AreApart
AreApartAs true = AreSetsApart
