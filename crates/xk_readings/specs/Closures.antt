-- Where one can come without a number being printed. This project's own.
use Rattle.std.specs.Prelude.{◌≡◌, ℕ, ◌<◌, ◌≤◌, ℤ, false, List, ◌++◌, length, Some, None, slice_get}
use Rattle.xk_readings.specs.Graphs.{GraphValue, HasEdge}
use Rattle.xk_readings.specs.Readings.{Reads}
use Rattle.xk_readings.specs.Useful.{IsReadable}
use Rattle.xk_readings.specs.Ways.{Standing, WaysValue, HasStanding, at}
use Rattle.xk_readings.specs.declared.edge.Edge.{Edge}

-- whatever reading goes out from the node, behind these activities and numbers it is one from the first node
abbrev pub LeadsTo : GraphValue → ℕ → List ℕ → List ℤ → Type 0
LeadsTo g k acts numbers = (n : ℕ) (rest : List ℕ) (more : List ℤ) → Reads g n k rest more
    → (m : ℕ) × Reads g m 0 (acts ++ rest) (numbers ++ more)

-- the way is one of the graph, and a reading goes out from where it ends
pub record IsReached (g : GraphValue) (s : Standing) : Type 0 where
  pub leads : LeadsTo g s.node s.acts s.numbers
  pub readable : IsReadable g s.node

-- so are all
abbrev pub AreReached : GraphValue → List Standing → Type 0
AreReached g all = (k : ℕ) (s : Standing) → slice_get all k ≡ Some s → IsReached g s

-- a reading goes out from where each edge ends
abbrev pub AreTrim : GraphValue → Type 0
AreTrim g = (e : Edge) → HasEdge g e → IsReadable g e.to

-- from this number on ways print these numbers
abbrev pub PrintsFrom : ℕ → List ℤ → List Standing → Type 0
PrintsFrom first numbers all = (k : ℕ) (s : Standing) → first ≤ k → slice_get all k ≡ Some s → s.numbers ≡ numbers

-- ways of the graph that print these numbers were added, each where none ended before
pub record IsSpread (g : GraphValue) (numbers : List ℤ) (old new : WaysValue) : Type 0 where
  pub kept : (k : ℕ) (s : Standing) → slice_get old.all k ≡ Some s → slice_get new.all k ≡ Some s
  pub many : length old.all ≤ length new.all
  pub room : new.here.room ≡ old.here.room
  pub reached : AreReached g new.all
  pub prints : PrintsFrom (length old.all) numbers new.all

-- each edge from where the way ends that prints nothing leads to where one ends that is looked at
abbrev pub IsClosed : GraphValue → List Standing → ℕ → Standing → Type 0
IsClosed g all since s = (e : Edge) → HasEdge g e → e.from ≡ s.node → e.printed ≡ None → HasStanding all since e.to

-- no way from this number on ends where a reading may end
abbrev pub NoneEnds : GraphValue → List Standing → ℕ → Type 0
NoneEnds g all first = (k : ℕ) → first ≤ k → k < length all → slice_get g.ends (at all k).node ≡ Some false
