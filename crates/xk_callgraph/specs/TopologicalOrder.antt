-- The order of the methods that are reached from one: each stands behind its callers, and of those that may be next the least one is.
-- This project's own.
use Rattle.std.specs.Prelude.{◌≡◌, ◌<◌, ◌≤◌, ◌+◌, ◌==◌, ℕ, zero, suc, List, length, slice_index, slice_get, Some, IsTrue, if◌then◌else◌}
use Rattle.std.specs.BTreeSet.{BTreeSet, contains}
use Rattle.std.specs.Ordering.{nat_cmp}
use Rattle.xk_callgraph.specs.CallGraph.{called_by, IsCall, Reaches, Falls}

-- who is called by one who has a place has a later one
abbrev pub IsInOrder : List (List ℕ) → List ℕ → Type 0
IsInOrder calls order = (a i k j : ℕ) → slice_get order a ≡ Some i → IsCall calls i k j → (b : ℕ) × (a < b) × (slice_get order b ≡ Some j)

-- no number stands twice
abbrev pub IsOnce : List ℕ → Type 0
IsOnce order = (a b i : ℕ) → slice_get order a ≡ Some i → slice_get order b ≡ Some i → a ≡ b

-- method i has one of the first k places
abbrev pub HasPlace : List ℕ → ℕ → ℕ → Type 0
HasPlace order k i = (a : ℕ) × (a < k) × (slice_get order a ≡ Some i)

-- method j may be next when k places are given: it is reached, has none of them, and all who call it and are reached have one
pub record IsReady (calls : List (List ℕ)) (start : ℕ) (order : List ℕ) (k j : ℕ) : Type 0 where
  pub reached : Reaches calls start j
  pub placeless : HasPlace order k j → ⊥
  pub callers : (i c : ℕ) → Reaches calls start i → IsCall calls i c j → HasPlace order k i

-- each place has the least number of those that may be next
abbrev pub AreLeast : List (List ℕ) → ℕ → List ℕ → Type 0
AreLeast calls start order = (k i j : ℕ) → slice_get order k ≡ Some i → IsReady calls start order k j → i ≤ j

-- ---- a search for those that are reached; it marks them by numbers that aren't 0

-- those are marked that are reached
pub record MarksReached (calls : List (List ℕ)) (start : ℕ) (seen : List ℕ) : Type 0 where
  pub sound : (j : ℕ) → 0 < slice_index seen j → Reaches calls start j
  pub complete : (j : ℕ) → Reaches calls start j → 0 < slice_index seen j

-- the list has those that are marked, and they are reached; whom the first of the list call are marked
pub record IsSearch (calls : List (List ℕ)) (start : ℕ) (seen reached : List ℕ) (done : ℕ) : Type 0 where
  pub marked : (n j : ℕ) → slice_get reached n ≡ Some j → 0 < slice_index seen j
  pub listed : (j : ℕ) → 0 < slice_index seen j → (n : ℕ) × (slice_get reached n ≡ Some j)
  pub sound : (j : ℕ) → 0 < slice_index seen j → Reaches calls start j
  pub closed : (n i k j : ℕ) → n < done → slice_get reached n ≡ Some i → IsCall calls i k j → 0 < slice_index seen j

-- ---- who is left without a place: those whose number isn't 0; each has a count of the calls of it by others that are left

-- how many of the first n of a list are j
abbrev pub times : ℕ → List ℕ → ℕ → ℕ
times zero js j = 0
times (suc n) js j = (if slice_index js n == j then 1 else 0) + times n js j

-- how many calls of method j the first n methods make, as far as they are left
abbrev pub pending : ℕ → List (List ℕ) → List ℕ → ℕ → ℕ
pending zero calls left j = 0
pending (suc n) calls left j = (if slice_index left n == 0 then 0 else times (length (called_by calls n)) (called_by calls n) j) + pending n calls left j

-- the counts are right
abbrev pub AreCounts : List (List ℕ) → List ℕ → List ℕ → Type 0
AreCounts calls left awaited = (j : ℕ) → slice_index awaited j ≡ pending (length calls) calls left j

-- the set has those that are left and wait for no call
pub record AreReady (left awaited : List ℕ) (ready : BTreeSet ℕ) : Type 0 where
  pub unplaced : (j : ℕ) → IsTrue (contains nat_cmp ready j) → 0 < slice_index left j
  pub free : (j : ℕ) → IsTrue (contains nat_cmp ready j) → slice_index awaited j ≡ 0
  pub all : (j : ℕ) → 0 < slice_index left j → slice_index awaited j ≡ 0 → IsTrue (contains nat_cmp ready j)

-- numbers fall along each call
abbrev pub CanFall : List (List ℕ) → Type 0
CanFall calls = (numbers : List ℕ) × Falls calls numbers
