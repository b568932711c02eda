use Rattle.std.proofs.Common.{◌≡◌, ℕ, ◌<◌, Some, slice_get}
use Rattle.xk_types.specs.declared.instr.Instr.{Instr}
use Rattle.xk_live_slots.specs.LiveSlots.{HasBefore, live_in}
use Rattle.xk_live_slots.proofs.rules.has_live_in.Given as goal

-- the places so far have it
abbrev pub invariant-loop-place : goal.invariant-loop-place
invariant-loop-place l = (p : ℕ) → p < l.place → (i : Instr) → slice_get l.code p ≡ Some i → HasBefore l.program (live_in l.rows) l.unit p i
