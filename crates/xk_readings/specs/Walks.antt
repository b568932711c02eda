-- The walk along all readings. This project's own.
use Rattle.std.specs.Prelude.{◌≡◌, ℕ, suc, ◌+◌, ◌-◌, ◌*◌, ◌<◌, ◌≤◌, ◌⊎◌, ℤ, Bool}
use Rattle.std.specs.Prelude.{true, List, [], ◌∷◌, ◌++◌, length, Some, slice_get, slice_index_or, if◌then◌else◌, ◌==◌}
use Rattle.std.specs.Bool.{MatchBool}
use Rattle.xk_readings.specs.declared.branches.Group.{Group}
use Rattle.xk_readings.specs.declared.listing.Reading.{Reading}
use Rattle.xk_readings.specs.Graphs.{GraphValue}
use Rattle.xk_readings.specs.Readings.{AreShown, IsListed, Reads}
use Rattle.xk_readings.specs.Rising.{AreBefore, AreRising, PartsBelow}
use Rattle.xk_readings.specs.Ways.{Standing, WaysValue, at}
use Rattle.xk_readings.specs.Closures.{AreReached, IsClosed, NoneEnds, PrintsFrom}
use Rattle.xk_readings.specs.Branches.{AreStacked}

-- the ways of the group are there, and print the same numbers
pub record IsOneOf (all : List Standing) (group : Group) : Type 0 where
  pub some : group.from < group.to
  pub within : group.to ≤ length all
  pub prints : (k : ℕ) (s : Standing) → group.from ≤ k → k < group.to → slice_get all k ≡ Some s → s.numbers ≡ (at all group.from).numbers

-- the numbers are read along a way of the group and a reading behind it
abbrev pub IsPending : GraphValue → List Standing → Group → List ℤ → Type 0
IsPending g all group numbers =
    (k : ℕ) × (s : Standing) × (group.from ≤ k) × (k < group.to) × (slice_get all k ≡ Some s)
    × (n : ℕ) × (rest : List ℕ) × (more : List ℤ) × Reads g n s.node rest more × (numbers ≡ s.numbers ++ more)

-- the numbers are read behind a way of one of the groups
abbrev pub IsAwaited : GraphValue → List Standing → List Group → List ℤ → Type 0
IsAwaited g all groups numbers = (i : ℕ) × (a : Group) × (slice_get groups i ≡ Some a) × IsPending g all a numbers

-- what the ways of a group print
abbrev pub numbers_of : List Standing → Group → List ℤ
numbers_of all group = (at all group.from).numbers

-- What is listed is read, and rises; whatever else is read is so behind a way of one of the groups, and comes behind what is listed: first
-- what is read behind the last group.
pub record IsWalk (g : GraphValue) (w : WaysValue) (groups : List Group) (list : List Reading) : Type 0 where
  pub room : w.here.room ≡ length g.ends
  pub reached : AreReached g w.all
  pub each : (i : ℕ) (a : Group) → slice_get groups i ≡ Some a → IsOneOf w.all a
  pub stacked : AreStacked groups (length w.all)
  pub shown : AreShown g list
  pub rising : AreRising list
  pub before : (i : ℕ) (a : Group) → slice_get groups i ≡ Some a → AreBefore list (numbers_of w.all a)
  pub falling : (i j : ℕ) (a b : Group) → i < j → slice_get groups i ≡ Some a → slice_get groups j ≡ Some b
      → PartsBelow (numbers_of w.all b) (numbers_of w.all a)
  pub all : (n : ℕ) (acts : List ℕ) (numbers : List ℤ) → Reads g n 0 acts numbers → IsListed list numbers ⊎ IsAwaited g w.all groups numbers

-- to the ways of the group those were added that come from there without a number being printed
pub record IsOpened (g : GraphValue) (group : Group) (old new : WaysValue) : Type 0 where
  pub kept : (k : ℕ) (s : Standing) → k < group.to → slice_get old.all k ≡ Some s → slice_get new.all k ≡ Some s
  pub many : group.to ≤ length new.all
  pub room : new.here.room ≡ old.here.room
  pub reached : AreReached g new.all
  pub prints : PrintsFrom group.from (at old.all group.from).numbers new.all
  pub closed : (k : ℕ) → group.from ≤ k → k < length new.all → IsClosed g new.all group.from (at new.all k)

-- what is read along the way of a number, which ends where a reading may end, is listed
pub record IsEndListed (g : GraphValue) (all : List Standing) (first : ℕ) (old new : List Reading) : Type 0 where
  pub number : ℕ
  pub reading : Reading
  pub behind : first ≤ number
  pub within : number < length all
  pub ends : slice_get g.ends (at all number).node ≡ Some true
  pub listed : new ≡ old ++ reading ∷ []
  pub acts : reading.acts.items ≡ (at all number).acts
  pub numbers : reading.numbers.items ≡ (at all number).numbers

-- one of these ways that ends where a reading may end is listed, if one does, or the limit is met
abbrev pub IsListedFrom : GraphValue → List Standing → ℕ → ℕ → List Reading → List Reading → Bool → Type 0
IsListedFrom g all first limit old new more =
    MatchBool more
    ((NoneEnds g all first × (new ≡ old)) ⊎ ((length old < limit) × IsEndListed g all first old new))
    ((new ≡ old) × (limit ≤ length old))

-- the last group, which comes next
abbrev pub last_group : List Group → Group
last_group groups = slice_index_or groups (length groups - 1) (record { from = 0; to = 0 })

-- how many numbers the ways of a group print
abbrev pub depth : List Standing → Group → ℕ
depth all group = length (at all group.from).numbers

-- at most so many steps of the walk are still to come
abbrev pub weight : ℕ → ℕ → List Standing → List Group → List Reading → ℕ
weight limit longest all groups list =
    (limit - length list) * (longest + 2) + (if length groups == 0 then 0 else longest + 1 - depth all (last_group groups))

-- one more is listed, or the ways of the group that comes next print one number more
abbrev pub IsNearer : ℕ → List Standing → Group → List Reading → List Standing → List Group → List Reading → Type 0
IsNearer limit old group before new groups list =
    ((length list ≡ suc (length before)) × (length before < limit))
    ⊎ ((list ≡ before) × (0 < length groups) × (depth new (last_group groups) ≡ suc (depth old group)))

-- the group was gone on from, or the limit is met
abbrev pub IsWalked : GraphValue → ℕ → Group → WaysValue → List Reading → WaysValue → List Group → List Reading → Bool → Type 0
IsWalked g limit group old before new groups list more =
    MatchBool more
    (IsWalk g new groups list × IsNearer limit old.all group before new.all groups list)
    ((list ≡ before) × (limit ≤ length before))
