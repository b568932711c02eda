use Rattle.std.proofs.Common.{ℕ, Ok, subst}
use Rattle.xk_core.specs.Core.{CoreValue, IsCore}
use Rattle.xk_core.proofs.FinishTreeLemmas.{taken_counts, taken_bound}
use Rattle.xk_core.proofs.machine.Core.step.Goals as goal

pub returns-in-Some-clause-counted : goal.returns-in-Some-clause-counted
returns-in-Some-clause-counted c =
    taken_counts c.args.self.now.module_run c.args.self.now.world c.step_running.new.self.world c.args.act c.step_running.result c.step_running.ensures.stepped

pub returns-in-Some-clause-bound : goal.returns-in-Some-clause-bound
returns-in-Some-clause-bound c = rw c.step_running.ensures.same_module
    (taken_bound c.args.self.now.module_run c.args.self.now.world c.step_running.new.self.world c.args.act c.step_running.result
    (subst (λ (v : CoreValue). IsCore v.module_run v.world) c.self.view_is c.self.invariant.0) c.step_running.ensures.stepped)

pub returns-in-None-clause-counted : goal.returns-in-None-clause-counted
returns-in-None-clause-counted c =
    taken_counts {E = ℕ} c.args.self.now.module_run c.args.self.now.world c.pass.new.self.world c.args.act (Ok c.pass.result) c.pass.ensures.stepped

pub returns-in-None-clause-bound : goal.returns-in-None-clause-bound
returns-in-None-clause-bound c = rw c.pass.ensures.same_module
    (taken_bound {E = ℕ} c.args.self.now.module_run c.args.self.now.world c.pass.new.self.world c.args.act (Ok c.pass.result)
    (subst (λ (v : CoreValue). IsCore v.module_run v.world) c.self.view_is c.self.invariant.0) c.pass.ensures.stepped)
