-- Where none of those that stand for the earlier ones is in a race, nothing is added; else the members of the groups that are in a new one tell all.
use Rattle.std.proofs.Common.{◌≡◌, ◌∙◌, ap, sym, subst}
use Rattle.std.specs.Prelude.{flat_map}
use Rattle.std.specs.List.Sorted.{IsPermutation}
use Rattle.xk_races.specs.Races.{with_races_of}
use Rattle.xk_races.specs.Accesses.{access_of, new_members, sights_at}
use Rattle.xk_races.proofs.LatestLemmas.{new_told, no_race}
use Rattle.xk_races.proofs.accesses.push_races.Goals as goal

pub returns-then-not-has_race-clause-told : goal.returns-then-not-has_race-clause-told
returns-then-not-has_race-clause-told c =
    sym (no_race c.args.earlier.now c.args.y.now c.args.latest.now c.args.list.now c.requires (sym c.if-not-has_race.ensures))

pub returns-clause-told : goal.returns-clause-told
returns-clause-told c =
    let earlier = c.args.earlier.now in
    let y = c.args.y.now in
    let list = c.args.list.now in
    let l = c.put_since.new.self in
    let placed = c.in_ok-put_since.ensures in
    let ps = c.sort_unstable.new.self.items in
    let members : c.in_ok-positions.positions.items ≡ flat_map (new_members list y) l.of_places =
    c.in_ok-positions.ensures ∙ ap (flat_map (new_members list y)) c.of_places.ensures in
    c.in_ok-push_races_at.ensures ∙ ap (λ qs. with_races_of y (sights_at earlier qs) list) c.deref.ensures.value
    ∙ sym (new_told earlier y l list ps (λ p x at one. placed.kept (access_of p x) (c.requires p x at one)) placed.none
    (subst (λ qs. IsPermutation qs ps) members c.sort_unstable.ensures.permutation) c.sort_unstable.ensures.sorted)
