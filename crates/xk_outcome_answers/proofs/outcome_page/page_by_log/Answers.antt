use Rattle.std.proofs.Common.{◌∙◌, sym, subst}
use Rattle.std.proofs.lemmas.Result.{IfOk-weaker}
use Rattle.xk_answers.specs.declared.picture.Picture.TheVariants as picture
use Rattle.xk_answers.specs.Results.{IsPageOf}
use Rattle.xk_answers.proofs.OrderedRunLemmas.{is_picture, paged_run}
use Rattle.xk_outcome_answers.proofs.outcome_page.page_by_log.Goals as goal

pub returns-in-Ok : goal.returns-in-Ok
returns-in-Ok c = λ form bytes given.
    let is = c.in-Ok.ensures in
    let ended = c.in-Ok.ended in
    let file = c.args.file.now in
    let m = ended.module.now in
    let world = ended.core.world in
    let es = ended.log.items in
    let told_of = rw (c.of.ensures.module, c.of.ensures.log, c.of.ensures.core) at c.page_so_far.ensures in
    IfOk-weaker c.page_so_far.result _ _
    (λ tale h.
    let told = is_picture (picture.Page c.args.window) form file bytes c.args.from.now m world.arguments es world _ given h in
    subst (λ log. IsPageOf c.args.window form file bytes c.args.verified.now c.args.arguments.now log (tale.text.items, tale.whole))
    (is.same_log ∙ c.new.ensures)
    (paged_run c.args.window form file bytes m c.args.verified.now c.args.arguments.now es _ ended.core
    is.same_module is.same_arguments ended.run ended.over told))
    told_of
