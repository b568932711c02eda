use Rattle.std.proofs.Common.{◌+◌, ◌<◌, length, ◌∙◌, ap, sym, subst, arith}
use Rattle.xk_ranks.specs.Ranks.{going}
use Rattle.xk_rank_digests.specs.Numbers.{AreNumbers}
use Rattle.xk_rank_digests.proofs.NumberLemmas.{numbers_none, numbers_more, numbers_same}
use Rattle.xk_rank_digests.proofs.ranks.numbers_in.Goals as goal
use Rattle.xk_rank_digests.proofs.ranks.numbers_in.Goals.{then-is_living+in_ok-push, else-is_living}

pub loop-a-init : goal.loop-a-init
loop-a-init c = subst (AreNumbers (going c.args.core.now.world.activities) 0) (sym c.new-numbers.ensures.items)
    (numbers_none (going c.args.core.now.world.activities))

pub loop-a-preserved : goal.loop-a-preserved
loop-a-preserved c =
    let w = c.args.core.now.world in
    let inside : c.loop-a.a < length w.activities = omega (arith, c.loop-a-test.true, c.activities-a-end.ensures.count) in
    elim c.if-is_living.branch [
      | then-is_living+in_ok-push b ↦
          numbers_more w c.loop-a.a inside c.is_living.result c.is_living.ensures c.loop-a.numbers.items c.if-is_living.numbers.items
          b.if-is_living.true c.loop-a.invariant (ap (λ v. v.items) b.numbers-is ∙ b.in_ok-push.ensures.items)
      | else-is_living b ↦
          subst (AreNumbers (going w.activities) (c.loop-a.a + 1)) (ap (λ v. v.items) (sym b.numbers-is))
          (numbers_same w c.loop-a.a inside c.is_living.result c.is_living.ensures c.loop-a.numbers.items b.if-is_living.false
          c.loop-a.invariant)
    ]
