use Rattle.std.proofs.Common.{◌∙◌, ◌++◌, [], append_assoc, sym, ap}
use Rattle.std.specs.Prelude.{filter, flat_map, if◌then◌else◌}
use Rattle.xk_collections.specs.NumberSets.{numbers_from}
use Rattle.xk_types.specs.Schedule.{is_enabled}
use Rattle.xk_ask.specs.Play.{able_line}
use Rattle.xk_ask.proofs.QuestionLemmas.{lines_more}
use Rattle.xk_ask.proofs.question.push_able_lines.Goals as goal

pub loop-act-preserved : goal.loop-act-preserved
loop-act-preserved c =
    let w = c.args.core.now.world in
    let m = c.args.core.now.module_run in
    let f = able_line c.args.text.now w in
    let here = if is_enabled m w c.loop-act.act then f c.loop-act.act else [] in
    let before = flat_map f (filter (is_enabled m w) (numbers_from 0 c.loop-act.act)) in
    c.in_ok-push_able.ensures
    ∙ ap (λ l. l ++ here) c.loop-act.invariant
    ∙ append_assoc c.args.out.now.items before here
    ∙ ap (λ l. c.args.out.now.items ++ l) (sym (lines_more f (is_enabled m w) c.loop-act.act))
