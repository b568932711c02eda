-- Digests that are linked where they are equal. This project's own.
use Rattle.std.specs.Prelude.{◌≡◌, ℕ, suc, ◌<◌, ◌≤◌, List, length, Some, slice_get, nat_eq, unwrap_or}
use Rattle.indexmap.specs.IndexMap.{IndexMap, get}

-- of the digests before n the last that is d is the one before this place; there is none where it is 0
pub record IsLast (all : List ℕ) (d n place : ℕ) : Type 0 where
  pub within : place ≤ n
  pub there : (k : ℕ) → place ≡ suc k → slice_get all k ≡ Some d
  pub none : (j : ℕ) → place ≤ j → j < n → slice_get all j ≡ Some d → ⊥

-- for each digest there is the place of the last before it that is equal, and for any digest that of the last one
pub record AreLinked (all before : List ℕ) (last : ℕ → ℕ) : Type 0 where
  pub many : length before ≡ length all
  pub each : (k d p : ℕ) → slice_get all k ≡ Some d → slice_get before k ≡ Some p → IsLast all d k p
  pub latest : (d : ℕ) → IsLast all d (length all) (last d)

-- the place that a map has for a digest, or 0
abbrev pub place_in : {S : Type 0} → IndexMap ℕ ℕ S → ℕ → ℕ
place_in places d = unwrap_or (get nat_eq places d) 0
