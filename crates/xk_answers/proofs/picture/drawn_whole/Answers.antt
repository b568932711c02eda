use Rattle.xk_answers.proofs.LogLemmas.{some_each}
use Rattle.xk_answers.proofs.OrderedRunLemmas.{is_picture, pictured}
use Rattle.xk_answers.proofs.picture.drawn_whole.Goals as goal

pub returns-clause-done : goal.returns-clause-done
returns-clause-done g c = λ form bytes given.
    let is = c.in_ok-ended.ensures in
    let ended = c.in_ok-ended.ended in
    let p = c.args.picture in
    let file = c.args.file.now in
    let m = ended.module.now in
    let world = ended.core.world in
    let log = ended.log.items in
    let told = is_picture p form file bytes c.args.from.now m world.arguments log world _ given c.in_ok-tale.ensures in
    some_each _ _ (g.L.Source.remaining c.args.log_in.now)
    (λ logged text. pictured p form file bytes m c.args.verified.now c.args.arguments.now log logged _ ended.core
    is.same_module is.same_arguments c.requires.accepted text ended.run (λ whole. ended.over) told) is.log
