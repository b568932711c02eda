use Rattle.std.proofs.Common.{◌≡◌, ◌<◌, length, ◌≤◌, ◌∙◌, sym, subst, arith}
use Rattle.xk_ranks.specs.Ranks.{going, rank}
use Rattle.xk_ranks.proofs.RankListLemmas.{rank_zero}
use Rattle.xk_rank_digests.proofs.NumberLemmas.{rank_living, rank_ended, living_of, number_here, number_beyond, going_length}
use Rattle.xk_rank_digests.proofs.ranks.act_of_rank.Goals as goal
use Rattle.xk_rank_digests.proofs.ranks.act_of_rank.Goals.{then-is_living+else-before-place, else-is_living}

pub loop-a-init : goal.loop-a-init
loop-a-init c = (sym (rank_zero (going c.args.core.now.world.activities)), omega arith)

pub returns-then-before-place : goal.returns-then-before-place
returns-then-before-place c =
    sym (number_here (going c.args.core.now.world.activities) c.loop-a.a c.args.place
    (living_of c.args.core.now.world c.loop-a.a (omega (arith, c.loop-a-test.true, c.activities-a-end.ensures.count)) c.is_living.result
    c.is_living.ensures c.args.place c.if-is_living.true (sym c.if-before-place.true ∙ c.loop-a.invariant.0)))

pub loop-a-preserved : goal.loop-a-preserved
loop-a-preserved c =
    let w = c.args.core.now.world in
    let inside : c.loop-a.a < length w.activities = omega (arith, c.loop-a-test.true, c.activities-a-end.ensures.count) in
    elim c.if-is_living.branch [
      | then-is_living+else-before-place b ↦
          (let more = rank_living w c.loop-a.a inside c.is_living.result c.is_living.ensures b.if-is_living.true in
          let same = c.loop-a.invariant.0 in
          let most = c.loop-a.invariant.1 in
          let new = b.before-is in
          let other = b.if-before-place.false in
          (omega (arith, more, same, new), omega (arith, most, new, other)))
      | else-is_living b ↦
          (let more = rank_ended w c.loop-a.a inside c.is_living.result c.is_living.ensures b.if-is_living.false in
          let same = c.loop-a.invariant.0 in
          let most = c.loop-a.invariant.1 in
          let new = b.before-is in
          (omega (arith, more, same, new), omega (arith, most, new)))
    ]

pub returns : goal.returns
returns c =
    let acts = c.args.core.now.world.activities in
    let ms = going acts in
    let long = going_length acts in
    let last = c.activities-a-end.ensures.count in
    let count = c.activities.ensures.count in
    let most = c.loop-a.auto.a-end in
    let over = c.loop-a-test.false in
    let before = c.loop-a.invariant.0 in
    let few = c.loop-a.invariant.1 in
    let all : c.loop-a.a ≡ c.activities.result = omega (arith, last, count, most, over) in
    let ranks : rank ms c.activities.result ≤ c.args.place = subst (λ k. rank ms k ≤ c.args.place) all (omega (arith, before, few)) in
    sym (number_beyond ms c.activities.result c.args.place (omega (arith, count, long)) ranks)
