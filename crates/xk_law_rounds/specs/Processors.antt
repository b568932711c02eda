-- Runs by rounds on so many processors, each of which takes a step in a round or none.
use Rattle.std.specs.Prelude.{◌≡◌, ℕ, ◌+◌, ◌/◌, ◌%◌, ◌<◌, ◌≤◌, min, List, [], ◌∷◌, length, ⊤}
use Rattle.xk_types.specs.Code.{ModuleValue}
use Rattle.xk_types.specs.World.{World}
use Rattle.xk_law_rounds.specs.Rounds.{IsRound, IsFull}

-- none of these rounds has more than p steps
abbrev pub AreWithin : ℕ → List (List ℕ) → Type 0
AreWithin p [] = ⊤
AreWithin p (r ∷ rs) = (length r ≤ p) × AreWithin p rs

-- By a round on p processors from world w to world v: at most p take a step, and where that leaves a processor, all take one who can
-- (greedy, in the words of Graham, "Bounds for certain multiprocessing anomalies", 1966).
pub record IsBusyRound (p : ℕ) (m : ModuleValue) (w : World) (list : List ℕ) (v : World) : Type 0 where
  pub round : IsRound m w list v
  pub some : 0 < length list
  pub within : length list ≤ p
  pub busy : length list < p → IsFull m w list

-- rounds one after another
abbrev pub AreBusy : ℕ → ModuleValue → World → List (List ℕ) → World → Type 0
AreBusy p m w [] z = w ≡ z
AreBusy p m w (r ∷ rs) z = (v : World) × IsBusyRound p m w r v × AreBusy p m v rs z

-- how many rounds n steps take on p processors: a p-th of them, rounded up
abbrev pub rounds_for : ℕ → ℕ → ℕ
rounds_for p n = n / p + min 1 (n % p)

-- how many it takes if the steps of each of these rounds are all taken before those of the next
abbrev pub dealt_rounds : ℕ → List (List ℕ) → ℕ
dealt_rounds p [] = 0
dealt_rounds p (r ∷ rs) = rounds_for p (length r) + dealt_rounds p rs
