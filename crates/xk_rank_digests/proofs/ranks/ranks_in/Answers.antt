use Rattle.std.proofs.Common.{◌<◌, length, sym, subst, arith}
use Rattle.xk_ranks.specs.Ranks.{going}
use Rattle.xk_ranks.proofs.RankListLemmas.{rank_zero}
use Rattle.xk_rank_digests.specs.Numbers.{AreRanks}
use Rattle.xk_rank_digests.proofs.NumberLemmas.{ranks_more, ranks_none, rank_living, rank_ended, rank_most}
use Rattle.xk_rank_digests.proofs.ranks.ranks_in.Goals as goal
use Rattle.xk_rank_digests.proofs.ranks.ranks_in.Goals.{then-is_living, else-is_living}

pub loop-a-init : goal.loop-a-init
loop-a-init c = (
  sym (rank_zero (going c.args.core.now.world.activities)),
  subst (AreRanks (going c.args.core.now.world.activities) 0) (sym c.new-ranks.ensures.items)
      (ranks_none (going c.args.core.now.world.activities)),
)

pub overflow_add-rank : goal.overflow_add-rank
overflow_add-rank c =
    let most = rank_most (going c.args.core.now.world.activities) c.loop-a.a in
    let is = c.loop-a.invariant.0 in
    let before = c.loop-a-test.true in
    let least = c.loop-a.auto.a-end in
    omega (arith, most, is, before, least)

pub loop-a-preserved : goal.loop-a-preserved
loop-a-preserved c =
    let w = c.args.core.now.world in
    let inside : c.loop-a.a < length w.activities = omega (arith, c.loop-a-test.true, c.activities-a-end.ensures.count) in
    let grown = ranks_more (going w.activities) c.loop-a.a c.loop-a.rank c.loop-a.ranks.items c.push.new.self.items c.loop-a.invariant.1
    c.loop-a.invariant.0 c.in_ok-push.ensures.items in
    elim c.if-is_living.branch [
      | then-is_living b ↦
          (let more = rank_living w c.loop-a.a inside c.is_living.result c.is_living.ensures b.if-is_living.true in
          let was = c.loop-a.invariant.0 in
          let new = b.rank-is in
          (omega (arith, more, was, new), grown))
      | else-is_living b ↦
          (let more = rank_ended w c.loop-a.a inside c.is_living.result c.is_living.ensures b.if-is_living.false in
          let was = c.loop-a.invariant.0 in
          let new = b.rank-is in
          (omega (arith, more, was, new), grown))
    ]
