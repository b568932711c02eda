-- Paths along moves, and how many there are. This project's own.
use Rattle.std.specs.Prelude.{◌≡◌, ℕ, zero, suc, ◌<◌, ◌+◌, ◌==◌, min, ℤ, Bool, false, List, [], ◌∷◌, ◌++◌, length, map}
use Rattle.std.specs.Prelude.{filter, Some, slice_get}
use Rattle.std.specs.Prelude.{slice_index_or, if◌then◌else◌}
use Rattle.std.specs.Option.{option_to_list}
use Rattle.xk_readings.specs.declared.edge.Edge.{Edge}
use Rattle.xk_readings.specs.Counts.{most_counted}

-- where a path ends, and the numbers along it
pub record Path : Type 0 where
  pub node : ℕ
  pub numbers : List ℤ

-- with a move more
abbrev pub longer : Edge → Path → Path
longer e p = record { node = e.to; numbers = p.numbers ++ option_to_list e.printed }

-- those of the paths that end where the move begins, with it
abbrev pub extended : Edge → List Path → List Path
extended e [] = []
extended e (p ∷ paths) = if p.node == e.from then longer e p ∷ extended e paths else extended e paths

-- with each of the moves
abbrev pub all_extended : List Edge → List Path → List Path
all_extended [] paths = []
all_extended (e ∷ moves) paths = extended e paths ++ all_extended moves paths

-- all paths of n moves from the first one
abbrev pub paths_of : List Edge → ℕ → List Path
paths_of moves zero = record { node = 0; numbers = [] } ∷ []
paths_of moves (suc n) = all_extended moves (paths_of moves n)

-- how many of them end there
abbrev pub ways_to : ℕ → List Path → ℕ
ways_to k [] = 0
ways_to k (p ∷ paths) = (if p.node == k then 1 else 0) + ways_to k paths

-- whether the path ends where a reading may end
abbrev pub is_over : List Bool → Path → Bool
is_over ends p = slice_index_or ends p.node false

-- the numbers of those that do
abbrev pub over_of : List Bool → List Path → List (List ℤ)
over_of ends paths = map (λ (p : Path). p.numbers) (filter (is_over ends) paths)

-- what is read along fewer than n moves
abbrev pub lists_below : List Edge → List Bool → ℕ → List (List ℤ)
lists_below moves ends zero = []
lists_below moves ends (suc n) = lists_below moves ends n ++ over_of ends (paths_of moves n)

-- a number as it is counted: no more than the most
abbrev pub counted : ℕ → ℕ
counted n = min most_counted n

-- for each node it is counted how many of the paths end there
pub record AreWaysOf (paths : List Path) (ways : List ℕ) : Type 0 where
  pub at : (k : ℕ) → k < length ways → slice_get ways k ≡ Some (counted (ways_to k paths))

-- each move leads from one of so many to one of them
abbrev pub AreBetween : List Edge → ℕ → Type 0
AreBetween moves many = (j : ℕ) (e : Edge) → slice_get moves j ≡ Some e → (e.from < many) × (e.to < many)
