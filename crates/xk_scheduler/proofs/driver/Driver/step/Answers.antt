use Rattle.std.proofs.Common.{◌≡◌, sym, subst}
use Rattle.xk_types.specs.Step.{Stepped, step}
use Rattle.xk_scheduler.specs.Rosters.{IsListed}
use Rattle.xk_scheduler.proofs.driver.Driver.step.Goals as goal

pub list_after-requires : goal.list_after-requires
list_after-requires c =
    let d = c.self.inside in
    let same = sym c.step.ensures.same_module in
    record {
      before = d.core.world;
      stepped = subst (λ k. step k d.core.world c.args.act ≡ Stepped c.step.new.self.world c.in_ok-event.event) same c.in_ok-event.ensures.stepped;
      listed = subst (λ k. IsListed (record { module_run = k; world = d.core.world }) d.roster) same c.self.invariant;
    }
