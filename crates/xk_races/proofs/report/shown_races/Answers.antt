-- The races that are found tell what all of the run's tell.
use Rattle.std.proofs.Common.{◌≡◌, ◌∙◌, List, length, nat_le, take, ap, subst}
use Rattle.xk_races.specs.declared.pairs.Race.{Race}
use Rattle.xk_races.specs.Knowledge.{Sight, sights_of}
use Rattle.xk_races.specs.Races.{gap_in, races_in, sights_of_run}
use Rattle.xk_races.specs.Text.{AreEnough, closing_text}
use Rattle.xk_races.proofs.ShownLemmas.{closing_alike, told_first, whole_alike}
use Rattle.xk_races.proofs.report.shown_races.Goals as goal

pub returns-clause-races : goal.returns-clause-races
returns-clause-races c =
    let run = c.args.ended.now in
    let seen = sights_of_run run.module.now run.core.world.arguments run.log.items in
    let races = c.in_ok-races.races.items in
    let sights : c.in_ok-sights.sights.items ≡ seen =
    c.in_ok-sights.ensures ∙ ap sights_of (c.deref.ensures.value ∙ c.in_ok-deeds.ensures) in
    let enough : AreEnough races (races_in seen) =
    subst (λ (ss : List Sight). AreEnough races (races_in ss)) (c.deref-2.ensures.value ∙ sights) c.in_ok-races.ensures in
    c.truncate.ensures.items ∙ ap (λ k. take k races) c.most_shown-2.ensures ∙ told_first races (races_in seen) enough

pub returns-clause-closing : goal.returns-clause-closing
returns-clause-closing c =
    let p = c.args.places.now in
    let run = c.args.ended.now in
    let seen = sights_of_run run.module.now run.core.world.arguments run.log.items in
    let races = c.in_ok-races.races.items in
    let sights : c.in_ok-sights.sights.items ≡ seen =
    c.in_ok-sights.ensures ∙ ap sights_of (c.deref.ensures.value ∙ c.in_ok-deeds.ensures) in
    let enough : AreEnough races (races_in seen) =
    subst (λ (ss : List Sight). AreEnough races (races_in ss)) (c.deref-2.ensures.value ∙ sights) c.in_ok-races.ensures in
    let gap : c.gap_in-gap.result ≡ gap_in seen = c.gap_in-gap.ensures ∙ ap gap_in (c.deref-3.ensures.value ∙ sights) in
    c.in_ok-closing.ensures
    ∙ ap (λ (rs : List Race). closing_text p rs c.gap_in-gap.result) c.deref-4.ensures.value
    ∙ closing_alike p races (races_in seen) c.gap_in-gap.result enough
    ∙ ap (closing_text p (races_in seen)) gap

pub returns-clause-whole : goal.returns-clause-whole
returns-clause-whole c =
    let run = c.args.ended.now in
    let seen = sights_of_run run.module.now run.core.world.arguments run.log.items in
    let races = c.in_ok-races.races.items in
    let sights : c.in_ok-sights.sights.items ≡ seen =
    c.in_ok-sights.ensures ∙ ap sights_of (c.deref.ensures.value ∙ c.in_ok-deeds.ensures) in
    let enough : AreEnough races (races_in seen) =
    subst (λ (ss : List Sight). AreEnough races (races_in ss)) (c.deref-2.ensures.value ∙ sights) c.in_ok-races.ensures in
    ap (λ n. nat_le n c.most_shown.result) (c.len.ensures ∙ c.in_ok-races.races.ok.0)
    ∙ ap (nat_le (length races)) c.most_shown.ensures
    ∙ whole_alike races (races_in seen) enough
