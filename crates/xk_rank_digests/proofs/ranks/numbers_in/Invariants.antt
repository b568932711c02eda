use Rattle.xk_ranks.specs.Ranks.{going}
use Rattle.xk_rank_digests.specs.Numbers.{AreNumbers}
use Rattle.xk_rank_digests.proofs.ranks.numbers_in.Given as goal

abbrev pub invariant-loop-a : goal.invariant-loop-a
invariant-loop-a l = AreNumbers (going l.core.world.activities) l.a l.numbers.items
