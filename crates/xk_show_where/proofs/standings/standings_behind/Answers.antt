use Rattle.std.proofs.Common.{◌∙◌, ap}
use Rattle.xk_types.specs.Code.{ModuleValue}
use Rattle.xk_show_where.specs.Where.{standings_text}
use Rattle.xk_show_where.proofs.ProgressLemmas.{told_text}
use Rattle.xk_show_where.proofs.standings.standings_behind.Goals as goal

pub returns-clause-text : goal.returns-clause-text
returns-clause-text c =
    let p = c.in_ok-progress.progress in
    c.in_ok-text.ensures
    ∙ ap (λ (m : ModuleValue). standings_text c.args.places.now m p.core.world p.stop) c.in_ok-progress.ensures.same_module
    ∙ told_text c.args.places.now c.args.verified.now c.args.arguments.now c.args.log.now p.core.world p.stop c.in_ok-progress.ensures.told

pub returns-clause-whole : goal.returns-clause-whole
returns-clause-whole c = c.is_none-whole.ensures ∙ c.in_ok-progress.ensures.told.whole
