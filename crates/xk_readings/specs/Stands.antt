-- Ways as they are kept, each by its last edge. This project's own.
use Rattle.std.specs.Prelude.{◌≡◌, ℕ, ◌≤◌, List, [], ◌∷◌, ◌++◌, Some, slice_get, fold}
use Rattle.xk_readings.specs.declared.ways.Stand.{Stand}
use Rattle.xk_readings.specs.NodeSets.{HasNode}
use Rattle.xk_readings.specs.Ways.{Standing, HasStanding, along, at, start}

-- with one way more
abbrev pub with_stand : List Standing → Stand → List Standing
with_stand all s = all ++ along s.edge (at all s.before) ∷ []

-- the ways with these last edges
abbrev pub standings : List Stand → List Standing
standings stands = fold with_stand (start ∷ []) stands

-- each makes one longer that is there before it: the edge of number k is the last one of way number k + 1
abbrev pub AreBehind : List Stand → Type 0
AreBehind stands = (k : ℕ) (s : Stand) → slice_get stands k ≡ Some s → s.before ≤ k

-- these are ways, and where those end that are looked at
pub record AreWays (stands : List Stand) (since : ℕ) (nodes : List ℕ) : Type 0 where
  pub behind : AreBehind stands
  pub here : (k : ℕ) → HasNode nodes k → HasStanding (standings stands) since k
