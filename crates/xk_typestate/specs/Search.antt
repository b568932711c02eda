-- A breadth-first search for all that walks of one slot come to, as far as it has come. This project's own.
use Rattle.std.specs.Prelude.{◌≡◌, ℕ, ◌+◌, ◌*◌, ◌<◌, ◌≤◌, Bool, true, false, List, [], ◌∷◌, ◌++◌, length, Option, Some, None, slice_get, slice_index_or, slice_set, IsTrue, sum_by, ◌⊎◌, if◌then◌else◌}
use Rattle.xk_types.specs.declared.instr.Instr.{Instr}
use Rattle.xk_types.specs.declared.rules.Kind.{Kind}
use Rattle.xk_types.specs.declared.rules.Visit.{Visit}
use Rattle.xk_types.specs.Code.{UnitValue, ModuleValue}
use Rattle.xk_types.specs.Order.{Has}
use Rattle.xk_types.specs.Walk.{IsEdge, entry_kinds, successors}
use Rattle.xk_typestate.specs.KindSet.{KindsValue, kinds_have, no_kinds, kinds_with}
use Rattle.xk_typestate.specs.Place.{visit}
use Rattle.xk_typestate.specs.declared.fixed_point.Found.{Found}
use Rattle.xk_typestate.specs.declared.fixed_point.Search.{Search}

-- there is code, and every instruction leads to places inside it
pub record IsClosed (u : UnitValue) : Type 0 where
  pub some : 0 < length u.code
  pub inside : (at : ℕ) (i : Instr) (to : ℕ) → slice_get u.code at ≡ Some i → Has (successors i at) to → to < length u.code

-- sets of kinds, one for each instruction: the stop is in them
abbrev pub holds : List KindsValue → Visit → Bool
holds sets q = kinds_have (slice_index_or sets q.at no_kinds) q.kind

-- one of the stops found, at place n
abbrev pub IsFound : List Found → ℕ → Found → Type 0
IsFound found n f = slice_get found n ≡ Some f

-- how the search came to a stop: it begins a walk, or an edge leads to it from a stop found before place n
abbrev pub Came : ModuleValue → UnitValue → ℕ → List Found → ℕ → Visit → Option ℕ → Type 0
Came m u s found n q None = (q.at ≡ 0) × Has (entry_kinds u s) q.kind
Came m u s found n q (Some before) = (before < n) × ((f : Found) × IsFound found before f × IsEdge m u s f.stop q)

-- Stops are come to from earlier ones first: the first of two places among those found isn't behind the second, where to begin a walk counts
-- as before all.
abbrev pub NotBehind : Option ℕ → Option ℕ → Type 0
NotBehind None o = Unit {0}
NotBehind (Some j) None = ⊥
NotBehind (Some j) (Some k) = j ≤ k

-- no stop found was come to from behind that place
abbrev pub IsLatest : List Found → Option ℕ → Type 0
IsLatest found from = (n : ℕ) (f : Found) → IsFound found n f → NotBehind f.from from

-- the stop is found, and was come to from that place or from one before it
pub record IsPrompt (found : List Found) (n : ℕ) (q : Visit) : Type 0 where
  pub place : ℕ
  pub f : Found
  pub found_there : IsFound found place f
  pub stop : f.stop ≡ q
  pub from : NotBehind f.from (Some n)

-- how many of the five kinds aren't in the set
abbrev pub one_unless : Bool → ℕ
one_unless b = if b then 0 else 1

abbrev pub kinds_absent : KindsValue → ℕ
kinds_absent s = one_unless s.unset + one_unless s.number + one_unless s.live + one_unless s.resumed + one_unless s.out

-- What is found was come to; what is seen is found; where the first `done` of those found lead is seen, and was come to from there or from
-- before; each is found once; they were come to from places that rise.
pub record AreSearched (m : ModuleValue) (u : UnitValue) (s : ℕ) (seen : List KindsValue) (found : List Found) (done : ℕ) : Type 0 where
  pub long : length seen ≡ length u.code
  pub within : done ≤ length found
  pub came : (n : ℕ) (f : Found) → IsFound found n f → Came m u s found n f.stop f.from
  pub listed : (q : Visit) → IsTrue (holds seen q) → (n : ℕ) × (f : Found) × IsFound found n f × (f.stop ≡ q)
  pub closed : (n : ℕ) (f : Found) (q : Visit) → IsFound found n f → n < done → IsEdge m u s f.stop q → IsTrue (holds seen q)
  pub prompt : (n : ℕ) (f : Found) (q : Visit) → IsFound found n f → n < done → IsEdge m u s f.stop q → IsPrompt found n q
  pub rising : (n k : ℕ) (f g : Found) → n ≤ k → IsFound found n f → IsFound found k g → NotBehind f.from g.from
  pub recent : IsLatest found (Some done)
  pub once : length found + sum_by kinds_absent seen ≡ 5 * length u.code

-- the search has come so far, for what it has seen and found
abbrev pub IsSearched : ModuleValue → UnitValue → ℕ → Search → ℕ → Type 0
IsSearched m u s r done = AreSearched m u s r.seen.items r.found.items done

-- every entry kind is seen at the first instruction
abbrev pub HasEntries : UnitValue → ℕ → Search → Type 0
HasEntries u s r = (k : Kind) → Has (entry_kinds u s) k → IsTrue (holds r.seen.items (visit 0 k))

-- and was found to begin a walk
abbrev pub HasBegun : UnitValue → ℕ → Search → Type 0
HasBegun u s r = (k : Kind) → Has (entry_kinds u s) k → (n : ℕ) × (f : Found) × IsFound r.found.items n f × (f.stop ≡ visit 0 k) × (f.from ≡ None)

-- the whole search
pub record IsComplete (m : ModuleValue) (u : UnitValue) (s : ℕ) (r : Search) : Type 0 where
  pub searched : IsSearched m u s r (length r.found.items)
  pub entries : HasEntries u s r
  pub begun : HasBegun u s r

-- a stop that wasn't seen is seen and found
pub record IsAdded (old new : Search) (q : Visit) (from : Option ℕ) : Type 0 where
  pub fresh : holds old.seen.items q ≡ false
  pub seen : new.seen.items ≡ slice_set old.seen.items q.at (kinds_with (slice_index_or old.seen.items q.at no_kinds) q.kind)
  pub found : new.found.items ≡ old.found.items ++ record { stop = q; from = from } ∷ []

-- or it was seen, and nothing changes
abbrev pub IsPut : Search → Search → Visit → Option ℕ → Type 0
IsPut old new q from = ((holds old.seen.items q ≡ true) × (new.seen.items ≡ old.seen.items) × (new.found.items ≡ old.found.items)) ⊎ IsAdded old new q from

-- nothing is lost
pub record Extends (old new : Search) : Type 0 where
  pub long : length new.seen.items ≡ length old.seen.items
  pub kept : (q : Visit) → IsTrue (holds old.seen.items q) → IsTrue (holds new.seen.items q)
  pub more : length old.found.items ≤ length new.found.items
  pub found : (n : ℕ) (f : Found) → IsFound old.found.items n f → IsFound new.found.items n f

-- all of these kinds are seen there
abbrev pub HasPut : Search → ℕ → KindsValue → Type 0
HasPut r to kinds = (k : Kind) → IsTrue (kinds_have kinds k) → IsTrue (holds r.seen.items (visit to k))

-- where the search is at place `done`, something leads there with each of these kinds, and nothing was come to from behind it
pub record CanCome (m : ModuleValue) (u : UnitValue) (s done : ℕ) (r : Search) (to : ℕ) (kinds : KindsValue) (from : Option ℕ) : Type 0 where
  pub come : (k : Kind) → IsTrue (kinds_have kinds k) → Came m u s r.found.items (length r.found.items) (visit to k) from
  pub latest : IsLatest r.found.items from
  pub now : NotBehind from (Some done)
