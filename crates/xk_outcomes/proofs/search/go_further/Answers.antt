use Rattle.std.proofs.Common.{◌≡◌, ◌∙◌, ◌≤◌, ◌++◌, ◌∷◌, [], ℕ, List, length, ap, arith, refl, subst, sym}
use Rattle.std.specs.Prelude.{IfSome}
use Rattle.xk_types.specs.Acceptance.{IsAccepted}
use Rattle.xk_types.specs.Code.{IsWithinLimits, ModuleValue}
use Rattle.xk_ranks.specs.Ranks.{going, rank}
use Rattle.xk_outcomes.specs.Found.{FoundValue}
use Rattle.xk_outcomes.specs.Ways.{IsLone, IsTrip}
use Rattle.xk_outcomes.proofs.AlikeLemmas.{enabled_there}
use Rattle.xk_outcomes.proofs.TripLemmas.{next_module, trip_more}
use Rattle.xk_outcomes.proofs.search.go_further.Goals as goal

pub lone_act-requires : goal.lone_act-requires
lone_act-requires c = c.requires ∙ sym (ap (λ (x : FoundValue). x.core.module_run) c.to.view_is)

pub rank_of-requires : goal.rank_of-requires
rank_of-requires c =
    let core = c.to.inside.core in
    let l : IsLone core.module_run core.world c.in-Some.act =
    subst (λ o. IfSome o (IsLone core.module_run core.world)) c.in-Some.is c.in_ok-act.ensures in
    (enabled_there core.module_run core.world c.in-Some.act l.enabled).0

pub returns-in_ok-go_on-in-Some-clause-module : goal.returns-in_ok-go_on-in-Some-clause-module
returns-in_ok-go_on-in-Some-clause-module c =
    ap (λ (x : FoundValue). x.core.module_run) c.in_ok-go_on-in-Some.ensures ∙ next_module c.args.to.now c.in-Some.act

pub returns-in_ok-go_on-in-Some-clause-trip : goal.returns-in_ok-go_on-in-Some-clause-trip
returns-in_ok-go_on-in-Some-clause-trip c x a before is trip =
    let y = c.args.to.now in
    let m = x.core.module_run in
    let b = c.in-Some.act in
    let view = c.to.view_is in
    let same : c.to.inside.core.module_run ≡ m = ap (λ (z : FoundValue). z.core.module_run) view ∙ sym is in
    let core = c.activities-activities.ensures.core in
    let inside = c.to.inside.core in
    let l : IsLone inside.module_run inside.world b =
    subst (λ o. IfSome o (IsLone inside.module_run inside.world)) c.in-Some.is c.in_ok-act.ensures in
    let lone : IsLone m y.core.world b =
    subst (λ (k : ModuleValue). IsLone k y.core.world b) (sym is)
    (subst (λ (z : FoundValue). IsLone z.core.module_run z.core.world b) view l) in
    let r = c.rank_of.result in
    let ranks : r ≡ rank (going y.core.world.activities) b =
    c.rank_of.ensures ∙ ap (λ (z : FoundValue). rank (going z.core.world.activities) b) view in
    let many = c.if-len-before.false in
    let count = c.len.ensures in
    let kept = c.to.inside.printed.ok.0 in
    let printed : length c.to.inside.printed.items ≡ length y.printed = ap (λ (z : FoundValue). length z.printed) view in
    let few : length y.printed ≤ length x.printed = omega (arith, before, many, count, kept, printed) in
    subst (λ (way : List ℕ). IsTrip m x a way c.go_on.new.self) (sym c.in_ok-push-in-Some.ensures.items)
    (subst (IsTrip m x a (c.args.way.now.items ++ r ∷ [])) (sym c.in_ok-go_on-in-Some.ensures)
    (trip_more m (subst IsWithinLimits same core.limits) (subst IsAccepted same core.accepted) x y a b r c.args.way.now.items refl
    trip few lone ranks))
