use Rattle.std.proofs.Common.{◌≡◌, length, ◌∙◌, sym, subst, ap, arith}
use Rattle.xk_core.specs.Core.{CoreValue, IsCore}
use Rattle.xk_core.specs.FinishView.{with_finishes}
use Rattle.xk_core.proofs.CoreLemmas.{core_names}
use Rattle.xk_core.proofs.FinishViewLemmas.{length_told}
use Rattle.xk_core.proofs.machine.Core.activities.Goals as goal

pub overflow_cast-result : goal.overflow_cast-result
overflow_cast-result c = omega (
  arith,
  core_names c.self.inside.state.module_run (with_finishes c.self.inside.finishes c.self.inside.state.world) c.self.invariant.0,
  c.len.ensures,
  ap length c.activities.ensures.list,
  length_told c.self.inside.finishes c.self.inside.state.world.activities c.self.invariant.1.width,
)

pub returns-clause-count : goal.returns-clause-count
returns-clause-count c = subst (λ (v : CoreValue). c.len.result ≡ length v.world.activities) c.self.view_is
    (c.len.ensures ∙ ap length c.activities.ensures.list ∙ sym (length_told c.self.inside.finishes c.self.inside.state.world.activities c.self.invariant.1.width))

pub returns-clause-core : goal.returns-clause-core
returns-clause-core c = subst (λ (v : CoreValue). IsCore v.module_run v.world) c.self.view_is c.self.invariant.0
