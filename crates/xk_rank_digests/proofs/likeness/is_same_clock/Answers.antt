use Rattle.std.proofs.Common.{refl, subst, arith}
use Rattle.std.proofs.lemmas.Bool.{false≢true}
use Rattle.xk_core.specs.Core.{CoreValue, IsCore}
use Rattle.xk_core.specs.Alikeness.{StandsAlike}
use Rattle.xk_ranks.specs.Ranks.{remains}
use Rattle.xk_rank_digests.proofs.RankLikenessLemmas.{below_more, clock_left, stands_of_clock}
use Rattle.xk_rank_digests.proofs.likeness.is_same_clock.Goals as goal

pub returns-then-not-stand_alike : goal.returns-then-not-stand_alike
returns-then-not-stand_alike c = (
  λ q. absurd (false≢true q),
  λ h.
      let yes = c.stand_alike.ensures.1 (stands_of_clock c.args.one.now.world c.args.other.now.world c.args.clock c.loop-r.r h) in
      let no = c.if-not-stand_alike.true in
      cc,
)

pub loop-r-preserved : goal.loop-r-preserved
loop-r-preserved c = below_more (λ k. StandsAlike (remains c.args.one.now.world) (remains c.args.other.now.world) c.args.clock k) c.loop-r.r
    c.loop-r.invariant (c.stand_alike.ensures.0 c.if-not-stand_alike.false)

pub returns : goal.returns
returns c = (
  λ q.
      let w = c.args.one.now in
      let v = c.args.other.now in
      let one = subst (λ (d : CoreValue). IsCore d.module_run d.world) c.core-core.ensures c.activities-activities.ensures.core in
      let two = subst (λ (d : CoreValue). IsCore d.module_run d.world) c.core-others.ensures c.activities-others.ensures.core in
      clock_left w.module_run v.module_run w.world v.world c.args.clock one two c.requires.many c.requires.here c.requires.there
      (λ k lt. c.loop-r.invariant k (omega (arith, lt, c.len-r-end.ensures, c.loop-r-test.false))),
  λ e. refl,
)
