-- How often names were there, as the code keeps it.
use Rattle.std.specs.Prelude.{◌≡◌, ℕ, List, count_by, unwrap_or}
use Rattle.std.specs.Borrow.{Bor}
use Rattle.std.specs.BTreeMap.{BTreeMap, get_by}
use Rattle.std.specs.Cmp.Lexicographic.{slice_cmp}
use Rattle.std.specs.Ordering.{nat_cmp}
use Rattle.xk_show_names.specs.ClockNames.{is_text}

-- what a map has for a name: 0, if it has nothing
abbrev pub count_of : BTreeMap (Bor (List ℕ)) ℕ → List ℕ → ℕ
count_of counts x = unwrap_or (get_by (λ k. slice_cmp nat_cmp x k.now) counts) 0

-- the map has how often each name is among these
abbrev pub AreCounted : BTreeMap (Bor (List ℕ)) ℕ → List (List ℕ) → Type 0
AreCounted counts names = (x : List ℕ) → count_of counts x ≡ count_by (is_text x) names
