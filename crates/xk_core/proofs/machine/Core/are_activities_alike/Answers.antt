use Rattle.std.proofs.Common.{refl, arith}
use Rattle.std.proofs.lemmas.Bool.{false≢true}
use Rattle.xk_law_commute.specs.PlainWorlds.{plain_activity}
use Rattle.xk_core.proofs.AlikenessLemmas.{same_maps, maps_same}
use Rattle.xk_core.proofs.machine.Core.are_activities_alike.Goals as goal

pub returns-then-not-is_activity_alike : goal.returns-then-not-is_activity_alike
returns-then-not-is_activity_alike c = (
  λ q. absurd (false≢true q),
  λ same e.
      let yes = c.is_activity_alike.ensures.1 same (maps_same plain_activity c.args.self.now.world.activities c.args.other.now.world.activities e c.loop-a.a) in
      let no = c.if-not-is_activity_alike.true in
      cc,
)

pub returns : goal.returns
returns c = (
  λ q. same_maps plain_activity c.args.self.now.world.activities c.args.other.now.world.activities c.requires
      (λ b lt. c.loop-a.invariant b (omega (arith, lt, c.activities-a-end.ensures.count, c.loop-a-test.false))),
  λ same e. refl,
)
