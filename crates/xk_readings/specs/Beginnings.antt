-- On which nodes one may stand behind some numbers, and how many sets of nodes these are. This project's own.
use Rattle.std.specs.Prelude.{◌≡◌, ℕ, zero, suc, ◌+◌, ◌<◌, ℤ, List, [], ◌∷◌, ◌++◌, length, Some, slice_get}
use Rattle.std.specs.List.Sorted.{IsStrictlyIncreasing}
use Rattle.std.specs.Option.{option_to_list}
use Rattle.xk_readings.specs.declared.edge.Edge.{Edge}
use Rattle.xk_readings.specs.Graphs.{GraphValue, HasEdge}
use Rattle.xk_readings.specs.NodeSets.{HasNode}
use Rattle.xk_readings.specs.Useful.{IsReadable}

-- n edges lead from the first node to node k, and these numbers stand along them
abbrev pub ReadsTo : GraphValue → ℕ → List ℤ → ℕ → Type 0
ReadsTo g zero numbers k = (k ≡ 0) × (numbers ≡ [])
ReadsTo g (suc n) numbers k =
    (e : Edge) × HasEdge g e × (e.to ≡ k) × (before : List ℤ) × ReadsTo g n before e.from × (numbers ≡ before ++ option_to_list e.printed)

-- edges do
abbrev pub IsReadTo : GraphValue → List ℤ → ℕ → Type 0
IsReadTo g numbers k = (n : ℕ) × ReadsTo g n numbers k

-- one may stand there behind the numbers: edges lead there, and a reading goes out from there
abbrev pub IsBehind : GraphValue → List ℤ → ℕ → Type 0
IsBehind g numbers k = IsReadTo g numbers k × IsReadable g k

-- one may stand on the same nodes behind both
abbrev pub LeadAlike : GraphValue → List ℤ → List ℤ → Type 0
LeadAlike g xs ys = (k : ℕ) → (IsBehind g xs k → IsBehind g ys k) × (IsBehind g ys k → IsBehind g xs k)

-- There are more sets of nodes than this on which one may stand behind some numbers: so many beginnings of readings, no two of which lead
-- to the same set.
pub record HasMoreSets (g : GraphValue) (limit : ℕ) : Type 0 where
  pub beginnings : List (List ℤ)
  pub some : (i : ℕ) (xs : List ℤ) → slice_get beginnings i ≡ Some xs → (k : ℕ) × IsBehind g xs k
  pub apart : (i j : ℕ) (xs ys : List ℤ) → slice_get beginnings i ≡ Some xs → slice_get beginnings j ≡ Some ys → LeadAlike g xs ys → i ≡ j
  pub more : limit < length beginnings

-- ---- how such a set is kept

-- edges lead to each of the nodes with these numbers
abbrev pub AreReadTo : GraphValue → List ℤ → List ℕ → Type 0
AreReadTo g numbers nodes = (k : ℕ) → HasNode nodes k → IsReadTo g numbers k

-- these are all nodes to which edges lead with these numbers, rising, and there is one
pub record AreBehind (g : GraphValue) (numbers : List ℤ) (nodes : List ℕ) : Type 0 where
  pub some : (k : ℕ) × HasNode nodes k
  pub each : AreReadTo g numbers nodes
  pub all : (k : ℕ) → IsReadTo g numbers k → HasNode nodes k
  pub rising : IsStrictlyIncreasing nodes

-- an edge from one of the nodes prints the number
abbrev pub IsPrintedFrom : GraphValue → List ℕ → ℤ → Type 0
IsPrintedFrom g nodes x = (e : Edge) × HasEdge g e × HasNode nodes e.from × (e.printed ≡ Some x)

-- no list is there twice
abbrev pub AreOnce : List (List ℕ) → Type 0
AreOnce lists = (i j : ℕ) (s : List ℕ) → slice_get lists i ≡ Some s → slice_get lists j ≡ Some s → i ≡ j
