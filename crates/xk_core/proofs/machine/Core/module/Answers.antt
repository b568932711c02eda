use Rattle.std.proofs.Common.{◌≡◌, subst}
use Rattle.xk_types.specs.World.{AreArguments, opening}
use Rattle.xk_core.specs.Core.{CoreValue}
use Rattle.xk_core.specs.FinishView.{with_finishes}
use Rattle.xk_core.proofs.CoreLemmas.{core_fresh}
use Rattle.xk_core.proofs.machine.Core.module.Goals as goal

pub returns-clause-opening : goal.returns-clause-opening
returns-clause-opening c = subst (λ (v : CoreValue). v.world.steps ≡ 0 → v.world ≡ opening v.module_run v.world.arguments) c.self.view_is
    (core_fresh c.self.inside.state.module_run (with_finishes c.self.inside.finishes c.self.inside.state.world) c.self.invariant.0)

pub returns-clause-taken : goal.returns-clause-taken
returns-clause-taken c = subst (λ (v : CoreValue). AreArguments v.module_run v.world.arguments) c.self.view_is c.self.invariant.0.reached.1.0
