use Rattle.std.proofs.Common.{◌≡◌, ◌∙◌, length, ap, subst}
use Rattle.xk_types.specs.Schedule.{all_ended}
use Rattle.xk_core.specs.Core.{CoreValue}
use Rattle.xk_scheduler.proofs.EnabledSetLemmas.{over_is}
use Rattle.xk_scheduler.proofs.driver.Driver.over.Goals as goal

pub returns : goal.returns
returns c =
    let d = c.self.inside in
    subst (λ (v : CoreValue). c.is_empty.result ≡ all_ended v.world) c.self.view_is
    (c.is_empty.ensures
    ∙ over_is d.core.module_run d.core.world d.roster.members (length c.enabled.result.now.members) c.self.invariant.core c.self.invariant.list_is (ap length c.enabled.ensures))
