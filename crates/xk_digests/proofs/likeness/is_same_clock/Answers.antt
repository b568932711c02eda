use Rattle.std.proofs.Common.{refl, arith}
use Rattle.xk_core.proofs.AlikenessLemmas.{clock_alike}
use Rattle.xk_digests.proofs.likeness.is_same_clock.Goals as goal

pub returns : goal.returns
returns c = (
  λ q. clock_alike c.args.core.now.module_run c.args.other.now.module_run c.args.core.now.world c.args.other.now.world c.args.clock
      c.activities-a-end.ensures.core c.activities-others.ensures.core c.requires.activities c.requires.here c.requires.there
      (λ b lt. c.loop-a.invariant b (omega (arith, lt, c.activities-a-end.ensures.count, c.loop-a-test.false))),
  λ e. refl,
)
