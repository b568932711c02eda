use Rattle.std.proofs.Common.{◌≡◌, ◌∙◌, sym, subst, ap}
use Rattle.std.specs.List.{list_all}
use Rattle.xk_types.specs.World.{Activity, is_ended}
use Rattle.xk_types.specs.Schedule.{all_ended}
use Rattle.xk_core.specs.Core.{CoreValue}
use Rattle.xk_core.proofs.FinishTreeLemmas.{ended_told}
use Rattle.xk_core.proofs.machine.Core.ended.Goals as goal

pub returns : goal.returns
returns c = subst (λ (v : CoreValue). c.all_ended.result ≡ all_ended v.world) c.self.view_is
    (c.all_ended.ensures ∙ ap (list_all (λ (x : Activity). is_ended x.status)) c.activities.ensures.list
    ∙ sym (ended_told c.self.inside.finishes c.self.inside.state.world.activities c.self.invariant.1.width))
