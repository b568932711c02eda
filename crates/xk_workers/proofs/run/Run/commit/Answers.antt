use Rattle.std.proofs.Common.{◌∙◌, List, OnOk, ap, sym, subst}
use Rattle.xk_types.specs.declared.world.Entry.{Entry}
use Rattle.xk_scheduler.specs.LoggedRuns.{IsCommitted}
use Rattle.xk_workers.specs.Run.{RunValue, run_at}
use Rattle.xk_workers.proofs.run.Run.commit.Goals as goal

pub returns-clause-logged : goal.returns-clause-logged
returns-clause-logged c =
    let same = ap (λ (r : RunValue). r.log) (sym (ap run_at c.in-Going.is) ∙ c.begin.ensures.same) ∙ ap (λ (r : RunValue). r.log) c.self.view_is in
    subst (λ (l : List Entry). OnOk c.commit.result (IsCommitted l c.args.ticket.act c.args.ticket.steps c.commit.new.self.log.items)) same c.commit.ensures.logged
