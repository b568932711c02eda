use Rattle.std.proofs.Common.{ℕ, ◌<◌}
use Rattle.xk_live_slots.specs.LiveSlots.{live_of}
use Rattle.xk_rank_digests.specs.RankLikeness.{AreSameAtRank}
use Rattle.xk_rank_digests.proofs.likeness.are_same_activities.Given as goal

-- so far those of each rank are the same
abbrev pub invariant-loop-r : goal.invariant-loop-r
invariant-loop-r l = (k : ℕ) → k < l.r → AreSameAtRank (live_of l.live) l.one.world l.other.world k
