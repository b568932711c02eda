use Rattle.std.proofs.Common.{refl, subst, arith}
use Rattle.std.proofs.lemmas.Bool.{false≢true}
use Rattle.xk_types.specs.Code.{ModuleValue}
use Rattle.xk_core.specs.Core.{CoreValue, IsCore}
use Rattle.xk_live_slots.specs.LiveSlots.{live_of}
use Rattle.xk_rank_digests.specs.RankLikeness.{AreSameAtRank}
use Rattle.xk_rank_digests.proofs.RankLikenessLemmas.{below_more, acts_alike, alike_acts}
use Rattle.xk_rank_digests.proofs.likeness.are_same_activities.Goals as goal

pub returns-then-not-branch : goal.returns-then-not-branch
returns-then-not-branch c = (
  λ q. absurd (false≢true q),
  λ h.
      let w = c.args.one.now in
      let v = c.args.other.now in
      let one = subst (λ (d : CoreValue). IsCore d.module_run d.world) c.core-core.ensures c.activities-activities.ensures.core in
      let two = subst (λ (m : ModuleValue). IsCore m v.world) c.requires.module
      (subst (λ (d : CoreValue). IsCore d.module_run d.world) c.core-others.ensures c.activities-others.ensures.core) in
      let yes = c.in_ok-are_same_at.ensures.1
      (alike_acts w.module_run (live_of c.args.live.now) w.world v.world one two c.requires.many h c.loop-r.r) in
      let no = c.if-not-branch.true in
      cc,
)

pub loop-r-preserved : goal.loop-r-preserved
loop-r-preserved c = below_more (λ k. AreSameAtRank (live_of c.args.live.now) c.args.one.now.world c.args.other.now.world k) c.loop-r.r
    c.loop-r.invariant (c.in_ok-are_same_at.ensures.0 c.if-not-branch.false)

pub returns : goal.returns
returns c = (
  λ q.
      let w = c.args.one.now in
      let v = c.args.other.now in
      let one = subst (λ (d : CoreValue). IsCore d.module_run d.world) c.core-core.ensures c.activities-activities.ensures.core in
      let two = subst (λ (m : ModuleValue). IsCore m v.world) c.requires.module
      (subst (λ (d : CoreValue). IsCore d.module_run d.world) c.core-others.ensures c.activities-others.ensures.core) in
      acts_alike w.module_run (live_of c.args.live.now) w.world v.world one two c.requires.many
      (λ k lt. c.loop-r.invariant k (omega (arith, lt, c.len-r-end.ensures, c.loop-r-test.false))),
  λ e. refl,
)
