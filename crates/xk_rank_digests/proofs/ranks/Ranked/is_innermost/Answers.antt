use Rattle.std.proofs.Common.{◌<◌, true, length, refl, sym, ◌∙◌, subst, Decides}
use Rattle.std.proofs.lemmas.Option.{none-some}
use Rattle.xk_activity.specs.Activities.{act_at}
use Rattle.xk_core.specs.Core.{CoreValue}
use Rattle.xk_rank_digests.specs.RankLikeness.{IsInnermost}
use Rattle.xk_rank_digests.proofs.RankLikenessLemmas.{governor_is, owner_inside, innermost_told}
use Rattle.xk_rank_digests.proofs.ranks.Ranked.is_innermost.Goals as goal

pub is_under-requires : goal.is_under-requires
is_under-requires c =
    let d = c.self.inside.core.now in
    let inside = subst (λ (v : CoreValue). c.args.act < length v.world.activities) (sym c.self.view_is) c.requires in
    owner_inside d.module_run d.world c.args.act c.in-Some.owner c.activities-activities.ensures.core inside
    (sym (governor_is d.world c.args.act inside) ∙ sym c.governor.ensures ∙ c.in-Some.is)

pub returns-in-Some : goal.returns-in-Some
returns-in-Some c =
    let d = c.self.inside.core.now in
    let inside = subst (λ (v : CoreValue). c.args.act < length v.world.activities) (sym c.self.view_is) c.requires in
    subst (λ (v : CoreValue). Decides c.is_under.result (IsInnermost v.world (act_at v.world.activities c.args.act))) c.self.view_is
    (innermost_told d.module_run d.world c.args.act c.in-Some.owner c.activities-activities.ensures.core inside
    (sym (governor_is d.world c.args.act inside) ∙ sym c.governor.ensures ∙ c.in-Some.is) c.is_under.result c.is_under.ensures)

pub returns-in-None : goal.returns-in-None
returns-in-None c =
    let d = c.self.inside.core.now in
    let inside = subst (λ (v : CoreValue). c.args.act < length v.world.activities) (sym c.self.view_is) c.requires in
    let none = sym (governor_is d.world c.args.act inside) ∙ sym c.governor.ensures ∙ c.in-None.is in
    subst (λ (v : CoreValue). Decides true (IsInnermost v.world (act_at v.world.activities c.args.act))) c.self.view_is
    ((λ h o own. absurd (none-some o (sym none ∙ own))), (λ h. refl))
