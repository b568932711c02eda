-- Lists that read as if they went on for ever. This project's own.
use Rattle.std.specs.Prelude.{ℕ, suc, ◌-◌, max, List, [], ◌∷◌, ◌++◌, length, replicate, slice_index_or, slice_set}
use Rattle.xk_show_events.specs.Worlds.{each_below}

-- number k of a list in which all that isn't there is 0
abbrev pub number_at : List ℕ → ℕ → ℕ
number_at xs k = slice_index_or xs k 0

-- row k of a list in which all that isn't there is empty
abbrev pub row_at : List (List ℕ) → ℕ → List ℕ
row_at rows k = slice_index_or rows k []

-- the list with x at place k; what lacks before it is d
abbrev pub with_at : {X : Type 0} → X → List X → ℕ → X → List X
with_at d xs k x = slice_set (xs ++ replicate (suc k - length xs) d) k x

-- the greater one of each two numbers
abbrev pub joined : List ℕ → List ℕ → List ℕ
joined r s = each_below (λ k. max (number_at r k) (number_at s k) ∷ []) (max (length r) (length s))
