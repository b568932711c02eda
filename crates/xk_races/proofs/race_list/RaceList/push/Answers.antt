-- The set has the places of the race that is added.
use Rattle.std.proofs.Common.{◌≡◌, ◌∙◌, true, ◌++◌, ◌∷◌, [], ap, sym, subst}
use Rattle.std.specs.BTreeSet.{Updates}
use Rattle.xk_races.specs.ToldPlaces.{AreTold, key_cmp}
use Rattle.xk_races.proofs.ToldPlaceLemmas.{told_added}
use Rattle.xk_races.proofs.race_list.RaceList.push.Goals as goal

pub invariant_of-self-2 : goal.invariant_of-self-2
invariant_of-self-2 c =
    let races = c.self.inside.races.items in
    let told = c.self.inside.told in
    let new = c.insert.new.self in
    let items : c.push.new.self.items ≡ races ++ c.args.race ∷ [] =
    c.in_ok-push.ensures.items ∙ ap (λ rs. rs ++ c.args.race ∷ []) c.reserve.ensures.items in
    subst (λ rs. AreTold rs new) (sym items)
    (told_added races told new c.args.race c.self.invariant (subst (λ k. Updates key_cmp told new k true) c.key.ensures c.in_ok-insert.ensures.updates))
