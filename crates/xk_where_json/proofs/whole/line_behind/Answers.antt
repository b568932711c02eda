use Rattle.std.proofs.Common.{◌∙◌, ◌&&◌, Bool, ap, map, subst}
use Rattle.std.specs.Prelude.{is_none}
use Rattle.serde_json.specs.Data.{Data}
use Rattle.xk_json.specs.Objects.{IsReadBack, json_line}
use Rattle.xk_where_json.proofs.StandingLemmas.{told_value}
use Rattle.xk_where_json.proofs.whole.line_behind.Goals as goal

pub returns-clause-text : goal.returns-clause-text
returns-clause-text c =
    let p = c.in_ok-progress.progress in
    let names = map (λ x. x.now) c.args.shared.now in
    c.in_ok-text.ensures.text
    ∙ ap json_line (told_value c.args.places.now names p.core.module_run c.args.verified.now c.args.arguments.now c.args.log.now
    p.core.world p.stop c.args.ends c.in_ok-progress.ensures.same_module c.in_ok-progress.ensures.told)

pub returns-clause-reads_back : goal.returns-clause-reads_back
returns-clause-reads_back c =
    let p = c.in_ok-progress.progress in
    let names = map (λ x. x.now) c.args.shared.now in
    subst (λ (d : Data). IsReadBack d)
    (told_value c.args.places.now names p.core.module_run c.args.verified.now c.args.arguments.now c.args.log.now
    p.core.world p.stop c.args.ends c.in_ok-progress.ensures.same_module c.in_ok-progress.ensures.told)
    c.in_ok-text.ensures.reads_back

pub returns-clause-whole : goal.returns-clause-whole
returns-clause-whole c =
    c.is_whole-whole.ensures ∙ ap (λ (b : Bool). b && is_none c.args.ends) c.in_ok-progress.ensures.told.whole
