use Rattle.std.proofs.Common.{◌≡◌, ◌<◌, length, option_map, Some, None, sym, ap, ◌∙◌, subst, arith}
use Rattle.std.proofs.lemmas.Option.{slice_get-get_or}
use Rattle.xk_activity.specs.Activities.{act_at}
use Rattle.xk_core.specs.Core.{CoreValue}
use Rattle.xk_ranks.specs.Ranks.{going, rank}
use Rattle.xk_rank_digests.proofs.NumberLemmas.{going_length}
use Rattle.xk_rank_digests.proofs.RankLikenessLemmas.{governor_is, owner_inside}
use Rattle.xk_rank_digests.proofs.ranks.Ranked.owner_rank.Goals as goal

pub index-requires : goal.index-requires
index-requires c =
    let d = c.self.inside.core.now in
    let inside = subst (λ (v : CoreValue). c.args.act < length v.world.activities) (sym c.self.view_is) c.requires in
    let less = owner_inside d.module_run d.world c.args.act c.in-Some.owner c.activities-activities.ensures.core inside
    (sym (governor_is d.world c.args.act inside) ∙ sym c.governor.ensures ∙ c.in-Some.is) in
    let many = going_length d.world.activities in
    let long = c.self.invariant.ranks_are.many in
    omega (arith, less, many, long)

pub returns-in-Some : goal.returns-in-Some
returns-in-Some c =
    let d = c.self.inside.core.now in
    let inside = subst (λ (v : CoreValue). c.args.act < length v.world.activities) (sym c.self.view_is) c.requires in
    let own = sym (governor_is d.world c.args.act inside) ∙ sym c.governor.ensures ∙ c.in-Some.is in
    let less = owner_inside d.module_run d.world c.args.act c.in-Some.owner c.activities-activities.ensures.core inside own in
    let many = going_length d.world.activities in
    let long = c.self.invariant.ranks_are.many in
    let place : c.owner.inside.0 ≡ c.in-Some.owner = c.owner.view_is in
    let is = c.self.invariant.ranks_are.each c.owner.inside.0 c.index.result.now
    (slice_get-get_or c.self.inside.ranks.items c.owner.inside.0 c.index.result.now (omega (arith, less, place, many, long))
    ∙ ap Some (sym c.index.ensures)) in
    subst (λ (v : CoreValue). Some c.index.result.now
    ≡ option_map (rank (going v.world.activities)) (act_at v.world.activities c.args.act).governed.owner) c.self.view_is
    (ap Some (sym is ∙ ap (rank (going d.world.activities)) place) ∙ ap (option_map (rank (going d.world.activities))) (sym own))

pub returns-in-None : goal.returns-in-None
returns-in-None c =
    let d = c.self.inside.core.now in
    let inside = subst (λ (v : CoreValue). c.args.act < length v.world.activities) (sym c.self.view_is) c.requires in
    let none = sym (governor_is d.world c.args.act inside) ∙ sym c.governor.ensures ∙ c.in-None.is in
    subst (λ (v : CoreValue). None
    ≡ option_map (rank (going v.world.activities)) (act_at v.world.activities c.args.act).governed.owner) c.self.view_is
    (ap (option_map (rank (going d.world.activities))) (sym none))
