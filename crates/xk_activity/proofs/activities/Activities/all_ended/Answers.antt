use Rattle.std.proofs.Common.{◌≡◌, subst, sym, ap, ◌∙◌}
use Rattle.std.specs.List.{list_all}
use Rattle.std.proofs.lemmas.List.Folds.{list_all-map}
use Rattle.xk_types.specs.World.{Activity, is_ended}
use Rattle.xk_activity.specs.Activities.{ActivityValue, ActivitiesValue}
use Rattle.xk_activity.proofs.activities.Activities.all_ended.Goals as goal

pub returns : goal.returns
returns c = subst (λ (v : ActivitiesValue). c.all_over.result ≡ list_all (λ (act : Activity). is_ended act.status) v.list) c.self.view_is
    (c.all_over.ensures ∙ ap (list_all (λ (x : ActivityValue). is_ended x.act.status)) c.deref.ensures.value
    ∙ sym (list_all-map (λ (act : Activity). is_ended act.status) (λ (x : ActivityValue). x.act) c.self.inside.list.items))
