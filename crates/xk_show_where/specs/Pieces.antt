-- Pieces of a text that are made before it, one for each number.
use Rattle.std.specs.Prelude.{ℕ, zero, suc, List, [], ◌∷◌, ◌++◌}

-- one for each number below this one, in order
abbrev pub pieces_below : (ℕ → List ℕ) → ℕ → List (List ℕ)
pieces_below told zero = []
pieces_below told (suc n) = pieces_below told n ++ told n ∷ []
