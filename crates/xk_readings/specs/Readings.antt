-- What can be read along the edges of a graph. This project's own.
use Rattle.std.specs.Prelude.{◌≡◌, ℕ, zero, suc, ◌≤◌, ℤ, true, List, [], ◌∷◌, ◌++◌, Some, slice_get}
use Rattle.std.specs.Option.{option_to_list}
use Rattle.xk_readings.specs.declared.edge.Edge.{Edge}
use Rattle.xk_readings.specs.declared.listing.Reading.{Reading}
use Rattle.xk_readings.specs.Graphs.{GraphValue, HasEdge}

-- n edges lead from node k to one where a reading may end: they are steps of these activities, and these numbers stand along them
abbrev pub Reads : GraphValue → ℕ → ℕ → List ℕ → List ℤ → Type 0
Reads g zero k acts numbers = (slice_get g.ends k ≡ Some true) × (acts ≡ []) × (numbers ≡ [])
Reads g (suc n) k acts numbers =
    (e : Edge) × HasEdge g e × (e.from ≡ k) × (rest : List ℕ) × (more : List ℤ)
    × Reads g n e.to rest more × (acts ≡ e.act ∷ rest) × (numbers ≡ option_to_list e.printed ++ more)

-- no reading of the first node has more edges
abbrev pub IsLongest : GraphValue → ℕ → Type 0
IsLongest g most = (n : ℕ) (acts : List ℕ) (numbers : List ℤ) → Reads g n 0 acts numbers → n ≤ most

-- each that is listed can be read from the first node
abbrev pub AreShown : GraphValue → List Reading → Type 0
AreShown g list = (i : ℕ) (r : Reading) → slice_get list i ≡ Some r → (n : ℕ) × Reads g n 0 r.acts.items r.numbers.items

-- these numbers are listed
abbrev pub IsListed : List Reading → List ℤ → Type 0
IsListed list numbers = (i : ℕ) × (r : Reading) × (slice_get list i ≡ Some r) × (r.numbers.items ≡ numbers)

-- whatever can be read from the first node is listed
abbrev pub AreAllListed : GraphValue → List Reading → Type 0
AreAllListed g list = (n : ℕ) (acts : List ℕ) (numbers : List ℤ) → Reads g n 0 acts numbers → IsListed list numbers
