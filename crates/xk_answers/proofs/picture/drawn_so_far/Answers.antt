use Rattle.std.proofs.Common.{◌∙◌, sym}
use Rattle.std.proofs.lemmas.Bool.{false≢true}
use Rattle.xk_answers.proofs.LogLemmas.{some_each}
use Rattle.xk_answers.proofs.OrderedRunLemmas.{is_picture, pictured}
use Rattle.xk_answers.proofs.picture.drawn_so_far.Goals as goal

pub returns-clause-done : goal.returns-clause-done
returns-clause-done g c = λ form bytes given.
    let is = c.in_ok-partial.ensures in
    let partial = c.in_ok-partial.partial in
    let p = c.args.picture in
    let file = c.args.file.now in
    let m = partial.module.now in
    let world = partial.core.world in
    let log = partial.log.items in
    let told_of = rw (c.of_partial.ensures.module, c.of_partial.ensures.log, c.of_partial.ensures.core) at c.in_ok-tale.ensures in
    let told = is_picture p form file bytes c.args.from.now m world.arguments log world _ given told_of in
    let part = c.requires.part in
    some_each _ _ (g.L.Source.remaining c.args.log_in.now)
    (λ logged text. pictured p form file bytes m c.args.verified.now c.args.arguments.now log logged _ partial.core
    is.same_module is.same_arguments c.requires.accepted text partial.run (λ whole. absurd (false≢true (sym part ∙ whole))) told) is.log
