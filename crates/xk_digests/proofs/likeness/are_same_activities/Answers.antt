use Rattle.std.proofs.Common.{refl, arith}
use Rattle.std.proofs.lemmas.Bool.{false≢true}
use Rattle.xk_live_slots.specs.LiveSlots.{live_of}
use Rattle.xk_digests.proofs.LikenessLemmas.{acts_same, same_acts}
use Rattle.xk_digests.proofs.likeness.are_same_activities.Goals as goal

pub returns-then-not-branch : goal.returns-then-not-branch
returns-then-not-branch c = (
  λ q. absurd (false≢true q),
  λ e.
      let yes = c.in_ok-is_same_activity.ensures.1 (same_acts (live_of c.args.live.now) c.args.core.now.world.activities
      c.args.other.now.world.activities c.loop-a.a e
      (omega (arith, c.loop-a-test.true, c.activities-a-end.ensures.count))
      (omega (arith, c.loop-a-test.true, c.activities-a-end.ensures.count, c.requires))) in
      let no = c.if-not-branch.true in
      cc,
)

pub returns : goal.returns
returns c = (
  λ q. acts_same (live_of c.args.live.now) c.args.core.now.world.activities c.args.other.now.world.activities c.requires
      (λ b lt. c.loop-a.invariant b (omega (arith, lt, c.activities-a-end.ensures.count, c.loop-a-test.false))),
  λ e. refl,
)
