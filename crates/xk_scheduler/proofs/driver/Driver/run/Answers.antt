use Rattle.std.proofs.Common.{◌≡◌, true, sym, subst, arith}
use Rattle.xk_types.specs.Schedule.{is_enabled}
use Rattle.xk_core.specs.Core.{CoreValue}
use Rattle.xk_scheduler.proofs.EnabledSetLemmas.{core_few}
use Rattle.xk_scheduler.proofs.LocalRunLemmas.{enabled_within}
use Rattle.xk_scheduler.proofs.RosterLemmas.{run_listed}
use Rattle.xk_scheduler.proofs.driver.Driver.run.Goals as goal

pub list_own-can_go_on-requires : goal.list_own-can_go_on-requires
list_own-can_go_on-requires c =
    let d = c.self.inside in
    let can : is_enabled d.core.module_run d.core.world c.args.act ≡ true =
    subst (λ (v : CoreValue). is_enabled v.module_run v.world c.args.act ≡ true) (sym c.self.view_is) c.requires in
    omega (
      arith,
      enabled_within d.core.module_run d.core.world c.args.act can,
      core_few d.core.module_run d.core.world c.self.invariant.core,
      c.self.invariant.roomy,
    )

pub invariant_of-self : goal.invariant_of-self
invariant_of-self c =
    let d = c.self.inside in
    run_listed d.core c.run-steps.new.self c.args.act c.run-steps.result d.roster c.list_own-can_go_on.new.self c.list_own-can_go_on.result c.self.invariant
    (subst (λ (v : CoreValue). is_enabled v.module_run v.world c.args.act ≡ true) (sym c.self.view_is) c.requires)
    (record { leads = c.run-steps.ensures.ran; local = c.run-steps.ensures.local }) c.run-steps.ensures.same_module c.list_own-can_go_on.ensures.can
    c.list_own-can_go_on.ensures.members
