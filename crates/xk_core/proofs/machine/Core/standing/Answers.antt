use Rattle.std.proofs.Common.{◌<◌, length, sym, subst, arith}
use Rattle.xk_core.specs.Core.{CoreValue}
use Rattle.xk_core.proofs.FinishViewLemmas.{length_told}
use Rattle.xk_core.proofs.machine.Core.standing.Goals as goal

pub standing-requires-clause-activity : goal.standing-requires-clause-activity
standing-requires-clause-activity c = omega (
  arith,
  subst (λ (v : CoreValue). c.args.act < length v.world.activities) (sym c.self.view_is) c.requires.activity,
  length_told c.self.inside.finishes c.self.inside.state.world.activities c.self.invariant.1.width,
  c.act.view_is,
  c.standings.ensures.held,
)
