use Rattle.std.proofs.Common.{◌<◌, length, sym, subst, arith}
use Rattle.xk_core.specs.Core.{CoreValue}
use Rattle.xk_core.proofs.FinishViewLemmas.{length_told}
use Rattle.xk_core.proofs.machine.Core.waits_for.Goals as goal

pub held_back_by-requires : goal.held_back_by-requires
held_back_by-requires c = omega (
  arith,
  subst (λ (v : CoreValue). c.args.act < length v.world.activities) (sym c.self.view_is) c.requires,
  length_told c.self.inside.finishes c.self.inside.state.world.activities c.self.invariant.1.width,
  c.act.view_is,
  c.standings.ensures.held,
)
