use Rattle.std.proofs.Common.{◌≡◌, map, take}
use Rattle.std.specs.Prelude.{fold}
use Rattle.xk_liveness.specs.Liveness.{live_activity}
use Rattle.xk_live_slots.specs.LiveSlots.{live_of}
use Rattle.xk_digests.specs.Digest.{with_activity, with_numbers}
use Rattle.xk_digests.proofs.digest.digest_of.Given as goal

abbrev pub invariant-loop-a : goal.invariant-loop-a
invariant-loop-a l = l.digest ≡ fold with_activity (with_numbers (with_numbers 0 l.printed) l.core.world.cells)
    (take l.a (map (live_activity (live_of l.live)) l.core.world.activities))
