use Rattle.std.proofs.Common.{◌≡◌, ℕ, ◌<◌, true, slice_get}
use Rattle.xk_live_slots.specs.LiveSlots.{live_of}
use Rattle.xk_digests.proofs.frames.are_same_slots.Given as goal

-- so far each that is live is the same
abbrev pub invariant-loop-s : goal.invariant-loop-s
invariant-loop-s l = (k : ℕ) → k < l.s → live_of l.live l.frames.frame.unit l.place k ≡ true
    → slice_get l.frames.frame.slots k ≡ slice_get l.others.frame.slots k
