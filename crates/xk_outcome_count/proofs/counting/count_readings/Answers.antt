use Rattle.std.proofs.Common.{◌≡◌, ◌<◌, ◌⊎◌, true, false, length, arith, subst, sym}
use Rattle.std.specs.Prelude.{IfOk}
use Rattle.std.proofs.lemmas.List.{length-map}
use Rattle.std.proofs.lemmas.Option.{slice_get_within}
use Rattle.xk_types.specs.Schedule.{all_ended}
use Rattle.xk_readings.specs.Beginnings.{HasMoreSets}
use Rattle.xk_readings.specs.Counts.{AreAsMany, AreAtLeast, most_counted}
use Rattle.xk_readings.specs.Graphs.{IsWithin, graph}
use Rattle.xk_readings.specs.Readings.{IsLongest}
use Rattle.xk_outcomes.specs.Alikeness.{counted}
use Rattle.xk_outcomes.specs.Found.{FoundValue, first_found}
use Rattle.xk_outcomes.specs.Links.{ends}
use Rattle.xk_outcomes.proofs.FollowLemmas.{links_within}
use Rattle.xk_outcome_count.proofs.counting.count_readings.Goals as goal

pub how_many-requires-clause-within : goal.how_many-requires-clause-within
how_many-requires-clause-within c =
    let x = c.args.explored.now.found in
    let links = c.args.explored.now.links.items in
    subst (λ l. IsWithin (graph l c.ends.result.now)) (sym c.deref.ensures.value)
    (subst (λ over. IsWithin (graph links over)) (sym c.ends.ensures)
    (links_within (counted x.like) x.start.module_run x.ways x.all links c.requires.linked))

pub how_many-requires-clause-some : goal.how_many-requires-clause-some
how_many-requires-clause-some c =
    let x = c.args.explored.now.found in
    let many = length-map x.all (λ (y : FoundValue). all_ended y.core.world) in
    let inside = slice_get_within x.all 0 (first_found x.start) c.requires.begins in
    subst (λ over. 0 < length over) (sym c.ends.ensures) (omega (arith, many, inside))

pub how_many-requires-clause-longest : goal.how_many-requires-clause-longest
how_many-requires-clause-longest c =
    let links = c.args.explored.now.links.items in
    let most = c.longest-longest.result in
    subst (λ l. IsLongest (graph l c.ends.result.now) most) (sym c.deref.ensures.value)
    (subst (λ over. IsLongest (graph links over) most) (sym c.ends.ensures) (c.longest-longest.ensures.longest links c.requires.linked))

pub returns-clause-played : goal.returns-clause-played
returns-clause-played c = c.longest-longest.ensures.played c.args.explored.now.links.items c.requires.linked

pub returns-clause-least : goal.returns-clause-least
returns-clause-least c =
    let all = c.args.explored.now.found.all in
    subst (λ l. IfOk c.how_many.result (λ r. AreAtLeast (graph l (ends all)) r.count)) c.deref.ensures.value
    (subst (λ over. IfOk c.how_many.result (λ r. AreAtLeast (graph c.deref.result.now over) r.count)) c.ends.ensures c.how_many.ensures.least)

pub returns-clause-exact : goal.returns-clause-exact
returns-clause-exact c =
    let all = c.args.explored.now.found.all in
    subst (λ l. IfOk c.how_many.result (λ r. r.exact ≡ true → AreAsMany (graph l (ends all)) r.count)) c.deref.ensures.value
    (subst (λ over. IfOk c.how_many.result (λ r. r.exact ≡ true → AreAsMany (graph c.deref.result.now over) r.count)) c.ends.ensures
    c.how_many.ensures.exact)

pub returns-clause-limit : goal.returns-clause-limit
returns-clause-limit c =
    let all = c.args.explored.now.found.all in
    let limit = c.args.limit in
    subst (λ l. IfOk c.how_many.result (λ r. r.exact ≡ false → HasMoreSets (graph l (ends all)) limit ⊎ (r.count ≡ most_counted)))
    c.deref.ensures.value
    (subst (λ over. IfOk c.how_many.result (λ r. r.exact ≡ false
    → HasMoreSets (graph c.deref.result.now over) limit ⊎ (r.count ≡ most_counted))) c.ends.ensures c.how_many.ensures.limit)
