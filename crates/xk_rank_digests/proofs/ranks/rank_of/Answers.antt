use Rattle.std.proofs.Common.{◌<◌, length, sym, arith}
use Rattle.xk_ranks.specs.Ranks.{going}
use Rattle.xk_ranks.proofs.RankListLemmas.{rank_zero}
use Rattle.xk_rank_digests.proofs.NumberLemmas.{rank_living, rank_ended, rank_most}
use Rattle.xk_rank_digests.proofs.ranks.rank_of.Goals as goal
use Rattle.xk_rank_digests.proofs.ranks.rank_of.Goals.{then-is_living, else-is_living}

pub loop-a-init : goal.loop-a-init
loop-a-init c = sym (rank_zero (going c.args.core.now.world.activities))

pub overflow_add-rank : goal.overflow_add-rank
overflow_add-rank c =
    let most = rank_most (going c.args.core.now.world.activities) c.loop-a.a in
    let is = c.loop-a.invariant in
    let before = c.loop-a-test.true in
    let least = c.loop-a.auto.a-end in
    omega (arith, most, is, before, least)

pub loop-a-preserved : goal.loop-a-preserved
loop-a-preserved c =
    let w = c.args.core.now.world in
    let same = c.act.view_is in
    let less = c.requires in
    let before = c.loop-a-test.true in
    let inside : c.loop-a.a < length w.activities = omega (arith, before, same, less) in
    elim c.if-is_living.branch [
      | then-is_living b ↦
          (let more = rank_living w c.loop-a.a inside c.is_living.result c.is_living.ensures b.if-is_living.true in
          let was = c.loop-a.invariant in
          let new = b.rank-is in
          omega (arith, more, was, new))
      | else-is_living b ↦
          (let more = rank_ended w c.loop-a.a inside c.is_living.result c.is_living.ensures b.if-is_living.false in
          let was = c.loop-a.invariant in
          let new = b.rank-is in
          omega (arith, more, was, new))
    ]
