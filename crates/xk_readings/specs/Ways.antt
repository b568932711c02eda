-- Ways along the edges of a graph. This project's own.
use Rattle.std.specs.Prelude.{◌≡◌, ℕ, ◌-◌, ◌≤◌, ℤ, List, [], ◌∷◌, ◌++◌, length, Some, slice_get, slice_index_or}
use Rattle.std.specs.Option.{option_to_list}
use Rattle.xk_readings.specs.declared.edge.Edge.{Edge}
use Rattle.xk_readings.specs.NodeSets.{NodeSetValue, with_nodes}

-- a way from the first node: where it ends, how its edges are taken, and what they print
pub record Standing : Type 0 where
  pub node : ℕ
  pub acts : List ℕ
  pub numbers : List ℤ

-- the way with no edge
abbrev pub start : Standing
start = record { node = 0; acts = []; numbers = [] }

-- a way with one edge more
abbrev pub along : Edge → Standing → Standing
along e s = record { node = e.to; acts = s.acts ++ e.act ∷ []; numbers = s.numbers ++ option_to_list e.printed }

-- the one of a number
abbrev pub at : List Standing → ℕ → Standing
at all k = slice_index_or all k start

-- all ways, the number of the first one that is looked at, and where those end that are
pub record WaysValue : Type 0 where
  pub all : List Standing
  pub since : ℕ
  pub here : NodeSetValue

-- none yet is looked at, and from now on those from this number on are
abbrev pub looking_from : ℕ → WaysValue → WaysValue
looking_from since w = record { all = w.all; since = since; here = with_nodes [] w.here }

-- one from this number on ends at the node
abbrev pub HasStanding : List Standing → ℕ → ℕ → Type 0
HasStanding all since node = (k : ℕ) × (s : Standing) × (since ≤ k) × (slice_get all k ≡ Some s) × (s.node ≡ node)

-- at how many nodes none ends yet that is looked at
abbrev pub left : WaysValue → ℕ
left w = w.here.room - length w.here.nodes
