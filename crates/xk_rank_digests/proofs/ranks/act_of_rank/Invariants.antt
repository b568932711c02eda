use Rattle.std.proofs.Common.{◌≡◌, ◌≤◌}
use Rattle.xk_ranks.specs.Ranks.{going, rank}
use Rattle.xk_rank_digests.proofs.ranks.act_of_rank.Given as goal

abbrev pub invariant-loop-a : goal.invariant-loop-a
invariant-loop-a l = (l.before ≡ rank (going l.core.world.activities) l.a) × (l.before ≤ l.place)
