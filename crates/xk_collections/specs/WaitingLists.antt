-- Lists of activities by clock: who waits for it. That such lists are kept is this project's own.
use Rattle.std.specs.Prelude.{ℕ, ◌+◌, ◌==◌, if◌then◌else◌, List, [], ◌∷◌, ◌++◌, slice_index_or, slice_set}

-- how often an activity stands in a list
abbrev pub times : ℕ → List ℕ → ℕ
times act [] = 0
times act (a ∷ acts) = (if a == act then 1 else 0) + times act acts

-- how often it stands in all lists together
abbrev pub times_in_all : ℕ → List (List ℕ) → ℕ
times_in_all act [] = 0
times_in_all act (acts ∷ lists) = times act acts + times_in_all act lists

-- who waits for a clock
abbrev pub waiters : List (List ℕ) → ℕ → List ℕ
waiters lists clock = slice_index_or lists clock []

-- who waits for one of these clocks, list by list
abbrev pub taken : List (List ℕ) → List ℕ → List ℕ
taken lists [] = []
taken lists (clock ∷ clocks) = waiters lists clock ++ taken (slice_set lists clock []) clocks

-- the lists without theirs
abbrev pub left : List (List ℕ) → List ℕ → List (List ℕ)
left lists [] = lists
left lists (clock ∷ clocks) = left (slice_set lists clock []) clocks

-- the list of each clock; the number of each activity is below the room
pub record WaitingValue : Type 0 where
  pub lists : List (List ℕ)
  pub room : ℕ
