use Rattle.std.proofs.Common.{◌≡◌, take}
use Rattle.xk_liveness.specs.Liveness.{masked}
use Rattle.xk_live_slots.specs.LiveSlots.{live_of}
use Rattle.xk_digests.specs.Digest.{with_values}
use Rattle.xk_digests.proofs.digest.with_slots.Given as goal

abbrev pub invariant-loop-s : goal.invariant-loop-s
invariant-loop-s l = l.digest ≡ with_values l.initial.digest
    (take l.s (masked (live_of l.live l.frames.frame.unit l.place) l.frames.frame.slots))
