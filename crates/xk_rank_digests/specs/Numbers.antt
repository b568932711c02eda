-- Ranks and numbers of the marked elements of a list, as a table keeps them. This project's own.
use Rattle.std.specs.Prelude.{◌≡◌, ℕ, zero, suc, Bool, true, false, List, [], ◌∷◌, length, Some, slice_get}
use Rattle.xk_ranks.specs.Ranks.{rank}

-- the number of the marked one before which so many are marked; or how many there are of all, if there is none
abbrev pub number_of : List Bool → ℕ → ℕ
number_of [] r = 0
number_of (false ∷ marks) r = suc (number_of marks r)
number_of (true ∷ marks) zero = 0
number_of (true ∷ marks) (suc r) = suc (number_of marks r)

-- number a is marked, and of those before it so many are
pub record IsOfRank (marks : List Bool) (a r : ℕ) : Type 0 where
  pub marked : slice_get marks a ≡ Some true
  pub ranks : rank marks a ≡ r

-- for each of the first so many elements how many before it are marked
pub record AreRanks (marks : List Bool) (count : ℕ) (ranks : List ℕ) : Type 0 where
  pub many : length ranks ≡ count
  pub each : (a r : ℕ) → slice_get ranks a ≡ Some r → rank marks a ≡ r

-- the numbers of those of the first so many that are marked, rising
pub record AreNumbers (marks : List Bool) (count : ℕ) (numbers : List ℕ) : Type 0 where
  pub many : length numbers ≡ rank marks count
  pub each : (r a : ℕ) → slice_get numbers r ≡ Some a → IsOfRank marks a r

-- the whole table of these marks
pub record IsTable (marks : List Bool) (ranks numbers : List ℕ) : Type 0 where
  pub ranks_are : AreRanks marks (length marks) ranks
  pub numbers_are : AreNumbers marks (length marks) numbers
