use Rattle.std.proofs.Common.{◌∙◌, arith, length, subst, sym, true≢false}
use Rattle.xk_readings.specs.Graphs.{IsWithin, graph}
use Rattle.xk_readings.specs.Readings.{AreAllListed, AreShown}
use Rattle.xk_readings.specs.Rising.{AreFirst, AreRising}
use Rattle.xk_outcomes.specs.Alikeness.{counted}
use Rattle.xk_outcomes.specs.Listing.{AreReadingsPut}
use Rattle.xk_outcomes.specs.Numbering.{AreAddedFrom, ArePlayedAll, AreReadingsFirst}
use Rattle.xk_outcomes.proofs.NumberingLemmas.{in_order, played_all, readings_most}
use Rattle.xk_outcomes.proofs.FollowLemmas.{links_within}
use Rattle.xk_outcomes.proofs.PathLemmas.{all_read, readings_listed}
use Rattle.xk_outcomes.proofs.paths.list_readings.Goals.{then-noted, else-noted}
use Rattle.xk_outcomes.proofs.paths.list_readings.Goals as goal

pub readings-requires-clause-within : goal.readings-requires-clause-within
readings-requires-clause-within c =
    let all = c.args.all.now.all in
    let links = c.args.links.now in
    subst (λ over. IsWithin (graph links over)) (sym c.ends.ensures)
    (links_within (counted c.args.all.now.like) c.args.all.now.start.module_run c.args.all.now.ways all links c.requires)

pub returns-clause-read : goal.returns-clause-read
returns-clause-read c done =
    let start = c.args.all.now.start in
    let all = c.args.all.now.all in
    let links = c.args.links.now in
    let found = c.in_ok-found.found.list.items in
    let list = c.note_readings.new.list in
    elim c.if-noted.branch [
      | then-noted w ↦
          let shown = subst (λ over. AreShown (graph links over) found) c.ends.ensures c.in_ok-found.ensures.shown in
          let whole = subst (λ over. AreAllListed (graph links over) found) c.ends.ensures (c.in_ok-found.ensures.all (sym w.result-is
          ∙ done)) in
          all_read all links found list whole
          (readings_listed start c.args.all.now.ways all links found list (c.longest-longest.ensures.played links c.requires) shown
          (subst (λ l. AreReadingsPut start c.args.all.now.ways l (length l) list) c.deref.ensures.value
          (c.in_ok-noted.ensures.listed w.if-noted.true)))
      | else-noted w ↦ absurd (true≢false (sym done ∙ w.result-is ∙ w.if-noted.false))
    ]

pub returns-clause-limit : goal.returns-clause-limit
returns-clause-limit c less =
    let start = c.args.all.now.start in
    let all = c.args.all.now.all in
    let links = c.args.links.now in
    let found = c.in_ok-found.found.list.items in
    let list = c.note_readings.new.list in
    elim c.if-noted.branch [
      | then-noted w ↦
          let many = c.in_ok-found.ensures.limit (sym w.result-is ∙ less) in
          let shown = subst (λ over. AreShown (graph links over) found) c.ends.ensures c.in_ok-found.ensures.shown in
          let most = readings_most found list c.in_ok-found.ensures.rising
          (readings_listed start c.args.all.now.ways all links found list (c.longest-longest.ensures.played links c.requires) shown
          (subst (λ l. AreReadingsPut start c.args.all.now.ways l (length l) list) c.deref.ensures.value
          (c.in_ok-noted.ensures.listed w.if-noted.true))) in
          omega (arith, many, most)
      | else-noted w ↦ c.in_ok-noted.ensures.full w.if-noted.false
    ]

pub returns-clause-order : goal.returns-clause-order
returns-clause-order c =
    let start = c.args.all.now.start in
    let all = c.args.all.now.all in
    let links = c.args.links.now in
    let found = c.in_ok-found.found.list.items in
    let list = c.note_readings.new.list in
    let from = length c.args.list.now in
    let shown = subst (λ over. AreShown (graph links over) found) c.ends.ensures c.in_ok-found.ensures.shown in
    let first = subst (λ over. AreFirst (graph links over) found) c.ends.ensures c.in_ok-found.ensures.first in
    let played = played_all start c.args.all.now.ways all links found (c.longest-longest.ensures.played links c.requires) shown in
    let value = c.deref.ensures.value in
    let rises = c.in_ok-found.ensures.rising in
    let played' = subst (ArePlayedAll start c.args.all.now.ways) (sym value) played in
    let rises' = subst AreRising (sym value) rises in
    in_order all links found from list first
    (subst (λ l. AreAddedFrom l (length l) from list) value (c.note_readings.ensures.added played'))
    (c.note_readings.ensures.rising played' rises')
    (subst (λ l. AreReadingsFirst l from list) value (c.in_ok-noted.ensures.first played' rises'))
