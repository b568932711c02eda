use Rattle.std.proofs.Common.{refl, arith}
use Rattle.std.proofs.lemmas.Bool.{false≢true}
use Rattle.xk_law_commute.specs.PlainWorlds.{plain_clock}
use Rattle.xk_core.proofs.AlikenessLemmas.{same_maps, maps_same}
use Rattle.xk_digests.proofs.likeness.are_same_clocks.Goals as goal

pub returns-then-not-is_same_clock : goal.returns-then-not-is_same_clock
returns-then-not-is_same_clock c = (
  λ q. absurd (false≢true q),
  λ e.
      let yes = c.is_same_clock.ensures.1 (maps_same plain_clock c.args.core.now.world.clocks c.args.other.now.world.clocks e c.loop-c.c) in
      let no = c.if-not-is_same_clock.true in
      cc,
)

pub returns : goal.returns
returns c = (
  λ q. same_maps plain_clock c.args.core.now.world.clocks c.args.other.now.world.clocks c.requires.clocks
      (λ k lt. c.loop-c.invariant k (omega (arith, lt, c.clocks-c-end.ensures, c.loop-c-test.false))),
  λ e. refl,
)
