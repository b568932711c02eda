-- Neither the key nor the one with the places the other way round.
use Rattle.std.proofs.Common.{◌≡◌, ◌∙◌, false, ◌||◌, ap, sym}
use Rattle.std.specs.BTreeSet.{contains}
use Rattle.xk_races.specs.ToldPlaces.{key, key_back, key_cmp}
use Rattle.xk_races.proofs.race_list.is_told.Goals as goal

pub returns-else-contains : goal.returns-else-contains
returns-else-contains c =
    let told = c.args.told.now in
    let r = c.args.race.now in
    let first : contains key_cmp told (key r) ≡ false = sym (ap (contains key_cmp told) c.key.ensures) ∙ sym c.contains.ensures ∙ c.if-contains.false in
    c.contains-else-contains.ensures ∙ ap (contains key_cmp told) c.key_back.ensures ∙ sym (ap (λ b. b || contains key_cmp told (key_back r)) first)
