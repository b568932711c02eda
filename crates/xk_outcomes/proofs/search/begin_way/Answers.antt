use Rattle.std.proofs.Common.{◌≡◌, ◌∙◌, ◌<◌, ◌++◌, ◌∷◌, [], ℕ, List, length, ap, refl, subst, sym}
use Rattle.xk_types.specs.Acceptance.{IsAccepted}
use Rattle.xk_types.specs.Code.{IsWithinLimits}
use Rattle.xk_ranks.specs.Ranks.{going, rank}
use Rattle.xk_outcomes.specs.Found.{FoundValue}
use Rattle.xk_outcomes.specs.Ways.{IsTrip}
use Rattle.xk_outcomes.proofs.AlikeLemmas.{enabled_there}
use Rattle.xk_outcomes.proofs.TripLemmas.{trip_first}
use Rattle.xk_outcomes.proofs.search.begin_way.Goals as goal

pub rank_of-requires : goal.rank_of-requires
rank_of-requires c =
    subst (λ (x : FoundValue). c.args.act < length x.core.world.activities) (sym c.here.view_is)
    (enabled_there c.args.here.now.core.module_run c.args.here.now.core.world c.args.act c.requires).0

pub returns : goal.returns
returns c =
    let here = c.args.here.now in
    let m = here.core.module_run in
    let same : c.here.inside.core.module_run ≡ m = ap (λ (x : FoundValue). x.core.module_run) c.here.view_is in
    let core = c.activities-activities.ensures.core in
    let r = c.rank_of.result in
    let is : r ≡ rank (going here.core.world.activities) c.args.act =
    c.rank_of.ensures ∙ ap (λ (x : FoundValue). rank (going x.core.world.activities) c.args.act) c.here.view_is in
    let way : c.push.new.self.items ≡ r ∷ [] = c.in_ok-push.ensures.items ∙ ap (λ (l : List ℕ). l ++ r ∷ []) c.new-way.ensures.items in
    subst (λ (l : List ℕ). IsTrip m here c.args.act l c.in_ok-to.to) (sym way)
    (subst (IsTrip m here c.args.act (r ∷ [])) (sym c.in_ok-to.ensures)
    (trip_first m (subst IsWithinLimits same core.limits) (subst IsAccepted same core.accepted) here c.args.act r refl c.requires is))
