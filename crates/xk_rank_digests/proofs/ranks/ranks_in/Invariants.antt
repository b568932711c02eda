use Rattle.std.proofs.Common.{◌≡◌}
use Rattle.xk_ranks.specs.Ranks.{going, rank}
use Rattle.xk_rank_digests.specs.Numbers.{AreRanks}
use Rattle.xk_rank_digests.proofs.ranks.ranks_in.Given as goal

abbrev pub invariant-loop-a : goal.invariant-loop-a
invariant-loop-a l = (l.rank ≡ rank (going l.core.world.activities) l.a) × AreRanks (going l.core.world.activities) l.a l.ranks.items
