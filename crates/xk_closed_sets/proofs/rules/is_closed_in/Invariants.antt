use Rattle.std.proofs.Common.{◌≡◌, ℕ, ◌<◌, Some, slice_get}
use Rattle.xk_types.specs.declared.instr.Instr.{Instr}
use Rattle.xk_closed_sets.specs.Places.{IsClosedAt}
use Rattle.xk_closed_sets.proofs.rules.is_closed_in.Given as goal

-- the places so far have it all
abbrev pub invariant-loop-place : goal.invariant-loop-place
invariant-loop-place l = (p : ℕ) → p < l.place → (i : Instr) → slice_get l.code p ≡ Some i → IsClosedAt l.rows l.unit p i
