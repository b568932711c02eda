use Rattle.std.proofs.Common.{◌+◌, sym, subst}
use Rattle.xk_core.specs.Core.{CoreValue, IsCore}
use Rattle.xk_greedy.proofs.StepLemmas.{on_more, on_start, still_enabled}
use Rattle.xk_greedy.specs.Steps.{AreEnabled}
use Rattle.xk_greedy.proofs.rounds.step_each.Goals as goal

pub loop-act-init : goal.loop-act-init
loop-act-init c = (on_start c.args.run.now.driver c.args.run.now.log.items c.args.acts.now, c.requires.enabled)

pub loop-act-preserved : goal.loop-act-preserved
loop-act-preserved c =
    let before = c.loop-act.run in
    let after = c.step.new.self in
    let h = c.in_ok-step.ensures in
    let inside = c.loop-act-test.true in
    let core = subst (λ (x : CoreValue). IsCore x.module_run x.world) c.core.ensures c.activities-count.ensures.core in (
      on_more c.args.run.now.driver before.driver after.driver c.args.run.now.log.items before.log.items after.log.items c.args.acts.now
          c.loop-act.act-index
          c.in_ok-step.field-0 inside c.loop-act.invariant.0 h.stepped h.same_module h.logged h.counted h.bound,
      subst (λ m. AreEnabled m after.driver.world (c.loop-act.act-index + 1) c.args.acts.now) (sym h.same_module)
          (still_enabled before.driver.module_run before.driver.world after.driver.world c.args.acts.now c.loop-act.act-index c.in_ok-step.field-0
          core
          c.requires.rising inside h.stepped c.loop-act.invariant.1),
    )
