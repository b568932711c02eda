use Rattle.std.proofs.Common.{◌≡◌, ◌≤◌, ℕ, suc, Some, map, slice_get}
use Rattle.xk_outcomes.specs.Found.{FoundValue}
use Rattle.xk_outcomes.specs.Search.{IsAt, found_digest}
use Rattle.xk_outcomes.proofs.entries.Entries.known.Given as goal

-- none from this place on is like it, and the one before has its digest
abbrev pub invariant-loop-at : goal.invariant-loop-at
invariant-loop-at l = record {
  there : (k : ℕ) → l.at ≡ suc k → slice_get (map (found_digest l.self.like) l.self.all) k ≡ Some l.digest;
  none : (j : ℕ) → l.at ≤ j → (y : FoundValue) → slice_get l.self.all j ≡ Some y → IsAt l.self.like y l.new.core.world l.new.printed → ⊥;
}

abbrev pub decreases-loop-at : goal.decreases-loop-at
decreases-loop-at l = l.at
