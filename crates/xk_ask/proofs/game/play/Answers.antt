use Rattle.xk_ask.specs.Answers.{answers, most_bytes}
use Rattle.xk_ask.specs.Asking.{said_on, to_come}
use Rattle.xk_ask.specs.Play.{question}
use Rattle.xk_ask.proofs.PlayLemmas.{begun_before, begun_early, begun_some_before, begun_some_early, failed, said_before, so_then, some_before}
use Rattle.xk_ask.proofs.game.play.Goals as goal

pub returns-in_err-ask-clause-played : goal.returns-in_err-ask-clause-played
returns-in_err-ask-clause-played g c = failed _ _ c.from_residual.ensures.0

pub returns-in_err-ask-clause-told : goal.returns-in_err-ask-clause-told
returns-in_err-ask-clause-told g c = failed _ _ c.from_residual.ensures.0

pub returns-in_err-ask-clause-begins : goal.returns-in_err-ask-clause-begins
returns-in_err-ask-clause-begins g c =
    let d = c.args.game.now.driver in
    let log = c.args.game.now.log.items in
    begun_early (g.E.Sink.contents c.args.err.now) (g.E.Sink.contents c.ask.new.err) (question c.args.text.now d.module_run d.world log)
    (to_come most_bytes (g.R.Source.remaining c.args.input.now)) (λ t. said_on c.args.text.now d log (answers t))
    c.ask.ensures.begins

pub returns-in_err-ask-clause-begins_some : goal.returns-in_err-ask-clause-begins_some
returns-in_err-ask-clause-begins_some g c =
    let d = c.args.game.now.driver in
    let log = c.args.game.now.log.items in
    begun_some_early (g.E.Sink.contents c.args.err.now) (g.E.Sink.contents c.ask.new.err) (question c.args.text.now d.module_run d.world log)
    (said_on c.args.text.now d log) c.ask.ensures.begins

pub returns-clause-by_some : goal.returns-clause-by_some
returns-clause-by_some g c =
    let d = c.args.game.now.driver in
    let log = c.args.game.now.log.items in
    so_then _ _ c.play_on.result
    (some_before d.module_run d.world log _ (g.E.Sink.contents c.args.err.now) (g.E.Sink.contents c.ask.new.err)
    (g.E.Sink.contents c.play_on.new.err) (question c.args.text.now d.module_run d.world log) (said_on c.args.text.now d log)
    c.in_ok-ask.ensures.asked)
    c.play_on.ensures.by_some

pub returns-clause-begins_some : goal.returns-clause-begins_some
returns-clause-begins_some g c =
    let d = c.args.game.now.driver in
    let log = c.args.game.now.log.items in
    begun_some_before (g.E.Sink.contents c.args.err.now) (g.E.Sink.contents c.ask.new.err) (g.E.Sink.contents c.play_on.new.err)
    (question c.args.text.now d.module_run d.world log) (said_on c.args.text.now d log) c.in_ok-ask.ensures.asked
    c.play_on.ensures.begins_some

pub returns-clause-told : goal.returns-clause-told
returns-clause-told g c =
    let d = c.args.game.now.driver in
    let log = c.args.game.now.log.items in
    so_then _ _ c.play_on.result
    (said_before (g.E.Sink.contents c.args.err.now) (g.E.Sink.contents c.ask.new.err) (g.E.Sink.contents c.play_on.new.err)
    (question c.args.text.now d.module_run d.world log) (to_come most_bytes (g.R.Source.remaining c.args.input.now))
    (λ t. said_on c.args.text.now d log (answers t)) c.in_ok-ask.ensures.asked)
    c.play_on.ensures.told

pub returns-clause-begins : goal.returns-clause-begins
returns-clause-begins g c =
    let d = c.args.game.now.driver in
    let log = c.args.game.now.log.items in
    begun_before (g.E.Sink.contents c.args.err.now) (g.E.Sink.contents c.ask.new.err) (g.E.Sink.contents c.play_on.new.err)
    (question c.args.text.now d.module_run d.world log) (to_come most_bytes (g.R.Source.remaining c.args.input.now))
    (λ t. said_on c.args.text.now d log (answers t)) c.in_ok-ask.ensures.asked
    c.play_on.ensures.begins
