-- Where the names of a table stand.
use Rattle.std.specs.Prelude.{◌≡◌, ℕ, List, Option, Some, None}
use Rattle.std.specs.Borrow.{Bor}
use Rattle.std.specs.List.{slice_get}
use Rattle.std.specs.Ordering.{nat_cmp}
use Rattle.std.specs.Cmp.Lexicographic.{slice_cmp}
use Rattle.std.specs.BTreeMap.{BTreeMap, get_by}
use Rattle.xk_names.specs.Scope.{Table, find}

-- what a map has for a text
abbrev pub place : BTreeMap (Bor (List ℕ)) ℕ → List ℕ → Option ℕ
place places x = get_by (λ k. slice_cmp nat_cmp x k.now) places

-- a map has each name of a table at its place, and no other name
pub record ArePlaces {A : Type 0} (table : Table A) (places : BTreeMap (Bor (List ℕ)) ℕ) : Type 0 where
  pub each : (i : ℕ) (e : List ℕ × A) → slice_get table i ≡ Some e → place places e.0 ≡ Some i
  pub other : (x : List ℕ) → find table x ≡ None → place places x ≡ None
