use Rattle.std.proofs.Common.{◌∙◌}
use Rattle.xk_scheduler.specs.LoggedRuns.{IsCommitted}
use Rattle.xk_scheduler.proofs.TurnLemmas.{committed, run_commits}
use Rattle.xk_scheduler.proofs.logged_run.Logged.commit.Goals as goal

pub invariant_of-self-2 : goal.invariant_of-self-2
invariant_of-self-2 c =
    let old = c.args.self.now in
    let t = c.args.ticket in
    let l : IsCommitted old.log.items t.act t.steps c.enter.new.log.items =
    committed old.log.items c.try_reserve.new.self.items c.enter.new.log.items _ t.act t.steps (c.entry.view_is ∙ c.act.ensures) c.steps.ensures.steps
    c.try_reserve.ensures.items c.enter.ensures in
    record {
      run = run_commits old.driver.module_run c.apply.new.self.module_run old.log.items c.enter.new.log.items old.printed.items old.driver c.apply.new.self
          t.act t.steps old.run c.apply.ensures.ran c.apply.ensures.unseen c.apply.ensures.same_module c.apply.ensures.same_module l;
    }

pub returns-clause-logged : goal.returns-clause-logged
returns-clause-logged c =
    let old = c.args.self.now in
    let t = c.args.ticket in
    committed old.log.items c.try_reserve.new.self.items c.enter.new.log.items _ t.act t.steps (c.entry.view_is ∙ c.act.ensures) c.steps.ensures.steps
    c.try_reserve.ensures.items c.enter.ensures
