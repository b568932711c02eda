-- Sets of nodes on which one stands at once, and moves from one set to another by a number: what can be read along them is what can be read along
-- the edges of the graph, each list in one way. This project's own.
use Rattle.std.specs.Prelude.{◌≡◌, ℕ, ◌<◌, ℤ, Bool, List, [], ◌∷◌, ◌++◌, length, map, Option, Some, None, true, slice_get}
use Rattle.std.specs.Bool.{Decides}
use Rattle.std.specs.Global.{Vec}
use Rattle.xk_readings.specs.declared.edge.Edge.{Edge}
use Rattle.xk_readings.specs.Beginnings.{AreBehind, IsPrintedFrom}
use Rattle.xk_readings.specs.Graphs.{GraphValue, HasEdge}
use Rattle.xk_readings.specs.NodeSets.{HasNode}
use Rattle.xk_readings.specs.Readings.{Reads}
use Rattle.xk_readings.specs.Sets.{Has}

-- the numbers are read from one of the nodes
abbrev pub IsReadFrom : GraphValue → List ℕ → List ℤ → Type 0
IsReadFrom g nodes numbers = (k : ℕ) × HasNode nodes k × (n : ℕ) × (acts : List ℕ) × Reads g n k acts numbers

-- whatever is read from the one is read from the other
abbrev pub ReadsNoMore : GraphValue → List ℕ → List ℕ → Type 0
ReadsNoMore g new old = (numbers : List ℤ) → IsReadFrom g new numbers → IsReadFrom g old numbers

-- each edge that prints nothing leads from one of the nodes to one of them
abbrev pub IsShut : GraphValue → List ℕ → Type 0
IsShut g nodes = (e : Edge) → HasEdge g e → e.printed ≡ None → HasNode nodes e.from → HasNode nodes e.to

-- each edge from the node that prints this leads to one of them
abbrev pub HasTargets : GraphValue → ℕ → Option ℤ → List ℕ → Type 0
HasTargets g from printed nodes = (e : Edge) → HasEdge g e → e.from ≡ from → e.printed ≡ printed → HasNode nodes e.to

-- an edge from the node that prints this leads there
abbrev pub IsTarget : GraphValue → ℕ → Option ℤ → ℕ → Type 0
IsTarget g from printed k = (e : Edge) × HasEdge g e × (e.from ≡ from) × (e.printed ≡ printed) × (e.to ≡ k)

-- these are nodes of the graph
abbrev pub AreNodes : GraphValue → List ℕ → Type 0
AreNodes g nodes = (k : ℕ) → HasNode nodes k → k < length g.ends

-- the number is read first on the way to the one set, from the other
pub record IsMove (g : GraphValue) (from : List ℕ) (x : ℤ) (to : List ℕ) : Type 0 where
  pub nodes : AreNodes g to
  pub shut : IsShut g to
  pub forth : (numbers : List ℤ) → IsReadFrom g to numbers → IsReadFrom g from (x ∷ numbers)
  pub back : (numbers : List ℤ) → IsReadFrom g from (x ∷ numbers) → IsReadFrom g to numbers
  pub behind : IsPrintedFrom g from x → (numbers : List ℤ) → AreBehind g numbers from → AreBehind g (numbers ++ x ∷ []) to

-- a node may end a reading
abbrev pub HasEndNode : GraphValue → List ℕ → Type 0
HasEndNode g nodes = (k : ℕ) × HasNode nodes k × (slice_get g.ends k ≡ Some true)

-- the edge is a move from one set to another
pub record IsMoveOf (g : GraphValue) (states : List (List ℕ)) (e : Edge) : Type 0 where
  pub source : List ℕ
  pub target : List ℕ
  pub number : ℤ
  pub out : slice_get states e.from ≡ Some source
  pub into : slice_get states e.to ≡ Some target
  pub prints : e.printed ≡ Some number
  pub move : IsMove g source number target

-- a move leads from this one to where the numbers are read
abbrev pub HasMove : GraphValue → List (List ℕ) → List Edge → ℕ → ℤ → List ℤ → Type 0
HasMove g states moves from x numbers = (e : Edge) × (target : List ℕ) × Has moves e × (e.from ≡ from) × (e.printed ≡ Some x)
    × (slice_get states e.to ≡ Some target) × IsReadFrom g target numbers

-- no two of them go out from one set with one number
abbrev pub AreForked : List Edge → Type 0
AreForked [] = Unit {0}
AreForked (e ∷ moves) = ((f : Edge) → Has moves f → f.from ≡ e.from → f.printed ≡ e.printed → ⊥) × AreForked moves

-- each set is of nodes of the graph, shut, and all behind some numbers; and the first one has the first node
pub record AreStates (g : GraphValue) (states : List (List ℕ)) : Type 0 where
  pub nodes : (i : ℕ) (s : List ℕ) → slice_get states i ≡ Some s → AreNodes g s × IsShut g s
  pub behind : (i : ℕ) (s : List ℕ) → slice_get states i ≡ Some s → (numbers : List ℤ) × AreBehind g numbers s
  pub first : (s : List ℕ) × (slice_get states 0 ≡ Some s) × ReadsNoMore g s (0 ∷ []) × HasNode s 0

-- these are moves between sets, and those from the sets before this place are all there
pub record AreMoves (g : GraphValue) (states : List (List ℕ)) (moves : List Edge) (place : ℕ) : Type 0 where
  pub each : (e : Edge) → Has moves e → IsMoveOf g states e
  pub before : (e : Edge) → Has moves e → e.from < place
  pub forked : AreForked moves
  pub there : (i : ℕ) (s : List ℕ) (x : ℤ) (numbers : List ℤ) → i < place → slice_get states i ≡ Some s → IsReadFrom g s (x ∷ numbers)
      → HasMove g states moves i x numbers

-- the lists of nodes, where they lie in memory
abbrev pub lists_in : List (Vec ℕ) → List (List ℕ)
lists_in lists = map (λ (v : Vec ℕ). v.items) lists

-- what was met stays where it is
abbrev pub KeepsStates : List (List ℕ) → List (List ℕ) → Type 0
KeepsStates old new = (i : ℕ) (s : List ℕ) → slice_get old i ≡ Some s → slice_get new i ≡ Some s

-- for each set whether a reading may end at one of its nodes
pub record AreEnds (g : GraphValue) (states : List (List ℕ)) (ends : List Bool) : Type 0 where
  pub many : length ends ≡ length states
  pub each : (i : ℕ) (s : List ℕ) → slice_get states i ≡ Some s → (b : Bool) × (slice_get ends i ≡ Some b) × Decides b (HasEndNode g s)

-- the move by the number from the set was added
pub record HasMoved (g : GraphValue) (states : List (List ℕ)) (old new : List Edge) (from : ℕ) (nodes : List ℕ) (number : ℤ) : Type 0 where
  pub edge : Edge
  pub added : new ≡ old ++ edge ∷ []
  pub out : edge.from ≡ from
  pub prints : edge.printed ≡ Some number
  pub target : List ℕ
  pub into : slice_get states edge.to ≡ Some target
  pub move : IsMove g nodes number target
