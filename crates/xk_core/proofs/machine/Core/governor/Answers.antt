use Rattle.std.proofs.Common.{◌≡◌, ◌<◌, length, ◌∙◌, subst, sym, arith}
use Rattle.xk_core.specs.Core.{CoreValue, governor}
use Rattle.xk_core.proofs.FinishViewLemmas.{length_told}
use Rattle.xk_core.proofs.GovernorLemmas.{governor_told}
use Rattle.xk_core.proofs.machine.Core.governor.Goals as goal

pub governor-requires : goal.governor-requires
governor-requires c = omega (
  arith,
  subst (λ (v : CoreValue). c.args.act < length v.world.activities) (sym c.self.view_is) c.requires,
  length_told c.self.inside.finishes c.self.inside.state.world.activities c.self.invariant.1.width,
  c.self.invariant.1.width,
)

pub returns : goal.returns
returns c = subst (λ (v : CoreValue). c.governor.result ≡ governor v.world c.args.act) c.self.view_is
    (c.governor.ensures ∙ governor_told c.self.inside.finishes c.self.inside.state.world c.self.invariant.1.width c.args.act
    (omega (
      arith,
      subst (λ (v : CoreValue). c.args.act < length v.world.activities) (sym c.self.view_is) c.requires,
      length_told c.self.inside.finishes c.self.inside.state.world.activities c.self.invariant.1.width,
    )))
