use Rattle.std.proofs.Common.{◌≡◌, subst, arith}
use Rattle.xk_scheduler.specs.EnabledSet.{with_or_without}
use Rattle.xk_scheduler.proofs.EnabledSetLemmas.{core_few}
use Rattle.xk_scheduler.proofs.TicketLemmas.{runs_within, driver_handed}
use Rattle.xk_scheduler.proofs.driver.Driver.apply.Goals as goal

pub list_one-requires : goal.list_one-requires
list_one-requires c =
    let d = c.self.inside in
    let t = c.args.ticket in
    omega (
      arith,
      c.act-act.ensures,
      runs_within d.core.world t.act c.apply.ensures.runs,
      core_few d.core.module_run d.core.world c.self.invariant.core,
      c.self.invariant.roomy,
    )

pub invariant_of-self : goal.invariant_of-self
invariant_of-self c =
    let d = c.self.inside in
    let t = c.args.ticket in
    let v = c.apply.new.self in
    let next = c.list_one.new.self in
    driver_handed d.core v t.act t.new t.steps d.roster next c.apply.ensures.runs c.apply.ensures.changed c.activities-there.ensures.core c.self.invariant
    (subst (λ a. next ≡ record d.roster { members = with_or_without v a d.roster.members }) c.act-act.ensures c.list_one.ensures)
