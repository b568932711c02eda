-- Which number comes next. This project's own.
use Rattle.std.specs.Prelude.{◌≡◌, ℕ, suc, ◌<◌, ◌≤◌, ℤ, ◌<ℤ◌, ◌≤ℤ◌, List, length, Option, Some, option_map, slice_get}
use Rattle.xk_readings.specs.declared.edge.Edge.{Edge}
use Rattle.xk_readings.specs.declared.branches.Branch.{Branch}
use Rattle.xk_readings.specs.declared.branches.Group.{Group}
use Rattle.xk_readings.specs.Graphs.{GraphValue, HasEdge}
use Rattle.xk_readings.specs.Ways.{Standing, WaysValue, HasStanding, along, at}

-- the edge behind a way, if it prints a number
abbrev pub branch_of : ℕ → Edge → Option Branch
branch_of before e = option_map (λ x. record { number = x; before = before; edge = e }) e.printed

-- an edge of the graph that prints the number, from where the way ends
pub record IsBranch (g : GraphValue) (all : List Standing) (b : Branch) : Type 0 where
  pub before : b.before < length all
  pub there : HasEdge g b.edge
  pub from : b.edge.from ≡ (at all b.before).node
  pub prints : b.edge.printed ≡ Some b.number

-- the edge is the one of a branch
abbrev pub HasBranch : List Branch → Edge → Type 0
HasBranch branches e = (i : ℕ) × (b : Branch) × (slice_get branches i ≡ Some b) × (b.edge ≡ e)

-- each edge that prints a number, from where the way ends, is the one of a branch
abbrev pub AreAllOf : GraphValue → List Branch → Standing → Type 0
AreAllOf g branches s = (e : Edge) (x : ℤ) → HasEdge g e → e.from ≡ s.node → e.printed ≡ Some x → HasBranch branches e

-- all branches of a way were added
pub record AreBranchesAt (g : GraphValue) (all : List Standing) (before : ℕ) (old new : List Branch) : Type 0 where
  pub kept : (i : ℕ) (b : Branch) → slice_get old i ≡ Some b → slice_get new i ≡ Some b
  pub each : (i : ℕ) (b : Branch) → slice_get new i ≡ Some b → length old ≤ i → IsBranch g all b × (b.before ≡ before)
  pub there : AreAllOf g new (at all before)

-- the branches of the ways from a number on
pub record AreBranches (g : GraphValue) (all : List Standing) (first : ℕ) (branches : List Branch) : Type 0 where
  pub each : (i : ℕ) (b : Branch) → slice_get branches i ≡ Some b → IsBranch g all b × (first ≤ b.before)
  pub there : (k : ℕ) → first ≤ k → k < length all → AreAllOf g branches (at all k)

-- none prints a greater number than one behind it
abbrev pub AreRisingBranches : List Branch → Type 0
AreRisingBranches branches = (i j : ℕ) (b c : Branch) → i ≤ j → slice_get branches i ≡ Some b → slice_get branches j ≡ Some c
    → b.number ≤ℤ c.number

-- the branches stand behind ways that are there, and lead to nodes of the graph
abbrev pub AreBefore : List Branch → WaysValue → Type 0
AreBefore branches w = (i : ℕ) (b : Branch) → slice_get branches i ≡ Some b → (b.before < length w.all) × (b.edge.to < w.here.room)

-- the way is that of a branch that prints the number
abbrev pub IsAlong : List Branch → List Standing → ℤ → Standing → Type 0
IsAlong branches all x s = (i : ℕ) × (b : Branch) × (slice_get branches i ≡ Some b) × (b.number ≡ x) × (s ≡ along b.edge (at all b.before))

-- the ways of the branches from start to end were added, all of which print the same number
pub record IsGroup (branches : List Branch) (start end : ℕ) (old new : WaysValue) : Type 0 where
  pub less : start < end
  pub room : new.here.room ≡ old.here.room
  pub many : length old.all ≤ length new.all
  pub kept : (k : ℕ) (s : Standing) → slice_get old.all k ≡ Some s → slice_get new.all k ≡ Some s
  pub each : (k : ℕ) (s : Standing) (b : Branch) → length old.all ≤ k → slice_get new.all k ≡ Some s → slice_get branches start ≡ Some b
      → IsAlong branches old.all b.number s
  pub same : (i : ℕ) (b c : Branch) → start ≤ i → i < end → slice_get branches i ≡ Some b → slice_get branches start ≡ Some c
      → b.number ≡ c.number
  pub other : (i : ℕ) (b c : Branch) → suc i ≡ start → slice_get branches i ≡ Some b → slice_get branches start ≡ Some c
      → b.number ≡ c.number → ⊥
  pub there : (i : ℕ) (b : Branch) → start ≤ i → i < end → slice_get branches i ≡ Some b → HasStanding new.all (length old.all) b.edge.to

-- the group is of ways of branches that print a number
pub record IsNew (branches : List Branch) (old new : List Standing) (x : ℤ) (group : Group) : Type 0 where
  pub behind : length old ≤ group.from
  pub some : group.from < group.to
  pub within : group.to ≤ length new
  pub each : (k : ℕ) (s : Standing) → group.from ≤ k → k < group.to → slice_get new k ≡ Some s → IsAlong branches old x s

-- the group has a way that ends at the node
abbrev pub HasWay : List Standing → Group → ℕ → Type 0
HasWay all group node = (k : ℕ) × (s : Standing) × (group.from ≤ k) × (k < group.to) × (slice_get all k ≡ Some s) × (s.node ≡ node)

-- each group ends before the next one begins
abbrev pub AreInOrder : List Group → Type 0
AreInOrder groups = (i j : ℕ) (a b : Group) → i ≤ j → slice_get groups i ≡ Some a → slice_get groups j ≡ Some b → a.to ≤ b.to

-- they stand in order among so many ways
pub record AreStacked (groups : List Group) (many : ℕ) : Type 0 where
  pub in_order : AreInOrder groups
  pub within : (i : ℕ) (a : Group) → slice_get groups i ≡ Some a → a.to ≤ many

-- the branches before a place print lesser numbers
abbrev pub AreLess : List Branch → ℕ → ℤ → Type 0
AreLess branches place x = (i : ℕ) (b : Branch) → i < place → slice_get branches i ≡ Some b → b.number <ℤ x

-- the groups from this one on are of numbers that fall, and that are greater than what the branches before a place print
pub record AreFalling (branches : List Branch) (place : ℕ) (old new : List Standing) (first : ℕ) (groups : List Group) : Type 0 where
  pub above : (i : ℕ) (a : Group) → first ≤ i → slice_get groups i ≡ Some a
      → (x : ℤ) × IsNew branches old new x a × AreLess branches place x
  pub fall : (i j : ℕ) (a b : Group) → first ≤ i → i < j → slice_get groups i ≡ Some a → slice_get groups j ≡ Some b
      → (x y : ℤ) × IsNew branches old new x a × IsNew branches old new y b × (y <ℤ x)

-- groups were added for all branches from a place on
pub record AreGrouped (branches : List Branch) (place : ℕ) (old new : WaysValue) (under over : List Group) : Type 0 where
  pub room : new.here.room ≡ old.here.room
  pub many : length old.all ≤ length new.all
  pub kept : (k : ℕ) (s : Standing) → slice_get old.all k ≡ Some s → slice_get new.all k ≡ Some s
  pub added : (k : ℕ) (s : Standing) → length old.all ≤ k → slice_get new.all k ≡ Some s → (x : ℤ) × IsAlong branches old.all x s
  pub longer : length under ≤ length over
  pub groups_kept : (i : ℕ) (a : Group) → slice_get under i ≡ Some a → slice_get over i ≡ Some a
  pub each : (i : ℕ) (a : Group) → length under ≤ i → slice_get over i ≡ Some a → (x : ℤ) × IsNew branches old.all new.all x a
  pub stacked : AreStacked under (length old.all) → AreStacked over (length new.all)
  pub falling : AreRisingBranches branches → AreFalling branches place old.all new.all (length under) over
  pub there : (i : ℕ) (b : Branch) → place ≤ i → slice_get branches i ≡ Some b
      → (j : ℕ) × (a : Group) × (length under ≤ j) × (slice_get over j ≡ Some a) × IsNew branches old.all new.all b.number a
      × HasWay new.all a b.edge.to

-- groups were added for all branches
abbrev pub IsGrouped : List Branch → WaysValue → WaysValue → List Group → List Group → Type 0
IsGrouped branches old new under over = AreGrouped branches 0 old new under over
