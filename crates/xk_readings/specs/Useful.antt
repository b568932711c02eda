-- Nodes from which a reading goes out. This project's own.
use Rattle.std.specs.Prelude.{◌≡◌, ℕ, ℤ, Bool, true, false, List, length, Some, slice_get, slice_set}
use Rattle.std.specs.Bool.{MatchBool}
use Rattle.xk_readings.specs.declared.edge.Edge.{Edge}
use Rattle.xk_readings.specs.Graphs.{GraphValue}
use Rattle.xk_readings.specs.Readings.{Reads}

-- a reading goes out from the node
abbrev pub IsReadable : GraphValue → ℕ → Type 0
IsReadable g k = (n : ℕ) × (acts : List ℕ) × (numbers : List ℤ) × Reads g n k acts numbers

-- a reading goes out from each that is marked
abbrev pub AreReadable : GraphValue → List Bool → Type 0
AreReadable g useful = (k : ℕ) → slice_get useful k ≡ Some true → IsReadable g k

-- marked are those from which a reading goes out
pub record AreUseful (g : GraphValue) (useful : List Bool) : Type 0 where
  pub many : length useful ≡ length g.ends
  pub readable : AreReadable g useful
  pub marked : (k : ℕ) → IsReadable g k → slice_get useful k ≡ Some true

-- where the edge ends is marked, and now also where it begins, which wasn't; or nothing is to be marked
abbrev pub IsMarked : Edge → List Bool → List Bool → Bool → Type 0
IsMarked e old new more =
    MatchBool more
    ((slice_get old e.to ≡ Some true) × (slice_get old e.from ≡ Some false) × (new ≡ slice_set old e.from true))
    ((new ≡ old) × (slice_get old e.to ≡ Some true → slice_get old e.from ≡ Some true))

-- each edge that ends at one that is marked begins at one that is marked
abbrev pub IsFollowed : List Edge → List Bool → Type 0
IsFollowed edges useful = (j : ℕ) (e : Edge) → slice_get edges j ≡ Some e → slice_get useful e.to ≡ Some true
    → slice_get useful e.from ≡ Some true

-- kept are the edges that end at marked nodes
pub record AreKept (edges : List Edge) (useful : List Bool) (kept : List Edge) : Type 0 where
  pub each : (i : ℕ) (e : Edge) → slice_get kept i ≡ Some e → ((j : ℕ) × (slice_get edges j ≡ Some e)) × (slice_get useful e.to ≡ Some true)
  pub all : (j : ℕ) (e : Edge) → slice_get edges j ≡ Some e → slice_get useful e.to ≡ Some true → (i : ℕ) × (slice_get kept i ≡ Some e)
