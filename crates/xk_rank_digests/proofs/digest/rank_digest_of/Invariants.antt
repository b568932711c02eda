use Rattle.std.proofs.Common.{◌≡◌, take}
use Rattle.std.specs.Prelude.{fold}
use Rattle.xk_live_slots.specs.LiveSlots.{live_of}
use Rattle.xk_digests.specs.Digest.{with_numbers}
use Rattle.xk_rank_digests.proofs.Stepwise.{with_going}
use Rattle.xk_rank_digests.proofs.digest.rank_digest_of.Given as goal

abbrev pub invariant-loop-a : goal.invariant-loop-a
invariant-loop-a l = l.digest ≡ fold (with_going (live_of l.live)) (with_numbers (with_numbers 0 l.printed) l.cells)
    (take l.a l.core.world.activities)
