-- Which texts a set has. This project's own.
use Rattle.std.specs.Prelude.{◌≡◌, ℕ, true, List, Some, slice_get}
use Rattle.std.specs.Borrow.{Bor}
use Rattle.std.specs.Ordering.{nat_cmp}
use Rattle.std.specs.Cmp.Lexicographic.{slice_cmp}
use Rattle.std.specs.BTreeSet.{BTreeSet, contains_by}

-- a set has those of a list, and no other
pub record AreTexts (told : List (List ℕ)) (texts : BTreeSet (Bor (List ℕ))) : Type 0 where
  pub each : (k : ℕ) (x : List ℕ) → slice_get told k ≡ Some x → contains_by (λ t. slice_cmp nat_cmp x t.now) texts ≡ true
  pub other : (x : List ℕ) → contains_by (λ t. slice_cmp nat_cmp x t.now) texts ≡ true → (k : ℕ) × (slice_get told k ≡ Some x)
