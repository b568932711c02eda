use Rattle.std.proofs.Common.{◌≡◌, ◌≤◌, subst, sym, ◌∙◌}
use Rattle.xk_types.specs.World.{opening}
use Rattle.xk_types.specs.Bound.{steps_bound}
use Rattle.xk_core.specs.Core.{CoreValue}
use Rattle.xk_core.specs.FinishView.{with_finishes}
use Rattle.xk_core.proofs.CoreLemmas.{core_bound, core_fresh}
use Rattle.xk_core.proofs.machine.Core.steps_done.Goals as goal

pub returns-clause-bound : goal.returns-clause-bound
returns-clause-bound c = rw c.steps.ensures
    (subst (λ (v : CoreValue). c.self.inside.state.world.steps ≤ steps_bound v.module_run) c.self.view_is
    (core_bound c.self.inside.state.module_run (with_finishes c.self.inside.finishes c.self.inside.state.world) c.self.invariant.0))

pub returns-clause-opening : goal.returns-clause-opening
returns-clause-opening c none =
    subst (λ (v : CoreValue). v.world ≡ opening v.module_run v.world.arguments) c.self.view_is
    (core_fresh c.self.inside.state.module_run (with_finishes c.self.inside.finishes c.self.inside.state.world) c.self.invariant.0 (sym c.steps.ensures ∙ none))
