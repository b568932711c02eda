-- Lists of numbers in rising order. This project's own.
use Rattle.std.specs.Prelude.{◌≡◌, ℕ, ◌<◌, ◌⊎◌, ℤ, ◌<ℤ◌, List, [], ◌∷◌, Some, slice_get}
use Rattle.xk_readings.specs.declared.listing.Reading.{Reading}
use Rattle.xk_readings.specs.Graphs.{GraphValue}
use Rattle.xk_readings.specs.Readings.{IsListed, Reads}

-- the one list comes before the other: it ends first, or has the lesser number where they first differ
abbrev pub ComesBefore : List ℤ → List ℤ → Type 0
ComesBefore xs [] = ⊥
ComesBefore [] (y ∷ ys) = Unit {0}
ComesBefore (x ∷ xs) (y ∷ ys) = (x <ℤ y) ⊎ ((x ≡ y) × ComesBefore xs ys)

-- each comes before those behind it: so none is there twice
abbrev pub AreRising : List Reading → Type 0
AreRising list = (i j : ℕ) (r s : Reading) → i < j → slice_get list i ≡ Some r → slice_get list j ≡ Some s
    → ComesBefore r.numbers.items s.numbers.items

-- all that are listed come before these numbers
abbrev pub AreBefore : List Reading → List ℤ → Type 0
AreBefore list numbers = (i : ℕ) (r : Reading) → slice_get list i ≡ Some r → ComesBefore r.numbers.items numbers

-- whatever else can be read from the first node comes behind all that are listed
abbrev pub AreFirst : GraphValue → List Reading → Type 0
AreFirst g list = (n : ℕ) (acts : List ℕ) (numbers : List ℤ) → Reads g n 0 acts numbers
    → IsListed list numbers ⊎ AreBefore list numbers

-- the two differ at a place that both have, and there the one has the lesser number: so it is of whatever goes on behind them
abbrev pub PartsBelow : List ℤ → List ℤ → Type 0
PartsBelow [] ys = ⊥
PartsBelow (x ∷ xs) [] = ⊥
PartsBelow (x ∷ xs) (y ∷ ys) = (x <ℤ y) ⊎ ((x ≡ y) × PartsBelow xs ys)
