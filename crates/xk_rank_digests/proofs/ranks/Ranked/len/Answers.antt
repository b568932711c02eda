use Rattle.std.proofs.Common.{length, ap, arith}
use Rattle.xk_core.specs.Core.{CoreValue}
use Rattle.xk_ranks.specs.Ranks.{going, rank}
use Rattle.xk_rank_digests.proofs.RankLikenessLemmas.{many_left}
use Rattle.xk_rank_digests.proofs.ranks.Ranked.len.Goals as goal

pub returns : goal.returns
returns c =
    let is = c.len.ensures in
    let many = c.self.invariant.numbers_are.many in
    let same = ap (λ (v : CoreValue). rank (going v.world.activities) (length (going v.world.activities))) c.self.view_is in
    let left = many_left c.args.self.now.world in
    omega (arith, is, many, same, left)
