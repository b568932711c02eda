use Rattle.std.proofs.Common.{◌∙◌, ap, map}
use Rattle.xk_types.specs.Code.{ModuleValue}
use Rattle.xk_show_events.specs.Events.{PlacesValue, places_of}
use Rattle.xk_show_where.specs.Where.{named_standings_text}
use Rattle.xk_show_where.proofs.ProgressLemmas.{named_told_text}
use Rattle.xk_show_where.proofs.named.named_where.Goals as goal

pub returns-clause-text : goal.returns-clause-text
returns-clause-text c =
    let p = c.in_ok-progress.progress in
    let names = map (λ x. x.now) c.args.shared.now in
    let there = places_of c.args.text.now c.args.origins.now in
    c.in_ok-text.ensures
    ∙ ap (λ (q : PlacesValue). named_standings_text q names p.core.module_run p.core.world p.stop) c.in_ok-places.ensures
    ∙ ap (λ (m : ModuleValue). named_standings_text there names m p.core.world p.stop) c.in_ok-progress.ensures.same_module
    ∙ named_told_text there names c.args.verified.now c.args.arguments.now c.args.log.now p.core.world p.stop c.in_ok-progress.ensures.told

pub returns-clause-whole : goal.returns-clause-whole
returns-clause-whole c = c.is_none-whole.ensures ∙ c.in_ok-progress.ensures.told.whole
