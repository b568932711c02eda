-- Graphs whose edges are steps. This project's own.
use Rattle.std.specs.Prelude.{◌≡◌, ℕ, ◌<◌, Bool, List, length, Some, slice_get}
use Rattle.std.specs.List.Sorted.{IsNonDecreasingBy}
use Rattle.xk_readings.specs.declared.edge.Edge.{Edge}

-- a graph: its edges, and for each node whether a reading may end there
pub record GraphValue : Type 0 where
  pub edges : List Edge
  pub ends : List Bool

-- the graph of these edges and ends
abbrev pub graph : List Edge → List Bool → GraphValue
graph edges ends = record { edges = edges; ends = ends }

-- the graph has the edge
abbrev pub HasEdge : GraphValue → Edge → Type 0
HasEdge g e = (j : ℕ) × (slice_get g.edges j ≡ Some e)

-- each edge leads from one of the nodes to one of them
abbrev pub IsWithin : GraphValue → Type 0
IsWithin g = (e : Edge) → HasEdge g e → (e.from < length g.ends) × (e.to < length g.ends)

-- ---- how a graph is kept

-- the edges rise by where they begin
abbrev pub AreSorted : List Edge → Type 0
AreSorted edges = IsNonDecreasingBy (λ (e : Edge). e.from) edges

-- the two graphs have the same edges and ends
pub record HasSameEdges (g h : GraphValue) : Type 0 where
  pub there : (e : Edge) → HasEdge g e → HasEdge h e
  pub back : (e : Edge) → HasEdge h e → HasEdge g e
  pub ends : h.ends ≡ g.ends

-- these are the edges that begin at the node
pub record AreFrom (g : GraphValue) (node : ℕ) (edges : List Edge) : Type 0 where
  pub each : (i : ℕ) (e : Edge) → slice_get edges i ≡ Some e → HasEdge g e × (e.from ≡ node)
  pub all : (e : Edge) → HasEdge g e → e.from ≡ node → (i : ℕ) × (slice_get edges i ≡ Some e)
