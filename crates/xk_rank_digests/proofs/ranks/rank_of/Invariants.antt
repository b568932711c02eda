use Rattle.std.proofs.Common.{◌≡◌}
use Rattle.xk_ranks.specs.Ranks.{going, rank}
use Rattle.xk_rank_digests.proofs.ranks.rank_of.Given as goal

abbrev pub invariant-loop-a : goal.invariant-loop-a
invariant-loop-a l = l.rank ≡ rank (going l.core.world.activities) l.a
