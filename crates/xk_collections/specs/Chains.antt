-- Lists of activities as chains: the first of each list, and the next of each activity. This project's own.
use Rattle.std.specs.Prelude.{◌≡◌, ℕ, zero, suc, ◌+◌, ◌<◌, ◌≤◌, List, [], ◌∷◌, length, map, Option, Some, None, slice_index_or}
use Rattle.xk_collections.specs.WaitingLists.{times, times_in_all, waiters}

-- the activity that a row of them has at a place, or nobody
abbrev pub at : List (Option ℕ) → ℕ → Option ℕ
at row place = slice_index_or row place None

-- so many activities at most, each followed by its next
abbrev pub chain : List (Option ℕ) → ℕ → Option ℕ → List ℕ
chain next n None = []
chain next zero (Some act) = []
chain next (suc n) (Some act) = act ∷ chain next n (at next act)

-- the lists that begin with these
abbrev pub lists_of : List (Option ℕ) → List (Option ℕ) → List (List ℕ)
lists_of first next = map (chain next (length next)) first

-- the whole chain from here on is this list
abbrev pub IsChain : List (Option ℕ) → Option ℕ → List ℕ → Type 0
IsChain next start [] = start ≡ None
IsChain next start (act ∷ acts) = (start ≡ Some act) × (act < length next) × IsChain next (at next act) acts

-- each list is the chain from its first, and nobody stands twice anywhere
pub record AreLaid (first next : List (Option ℕ)) (lists : List (List ℕ)) : Type 0 where
  pub clocks : length lists ≡ length first
  pub chained : (clock : ℕ) → IsChain next (at first clock) (waiters lists clock)
  pub once : (act : ℕ) → times_in_all act lists ≤ 1

-- where there is a clock there is a place for each activity below the room
abbrev pub HasPlaces : List (Option ℕ) → List (Option ℕ) → ℕ → Type 0
HasPlaces first next room = 0 < length first → length next ≡ room

-- nobody stands twice in a list and these lists together, and all are below the room
pub record AreApart (room : ℕ) (acts : List ℕ) (lists : List (List ℕ)) : Type 0 where
  pub once : (act : ℕ) → times act acts + times_in_all act lists ≤ 1
  pub within : (act : ℕ) → 0 < times act acts + times_in_all act lists → act < room
