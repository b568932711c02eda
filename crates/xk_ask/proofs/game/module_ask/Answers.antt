use Rattle.std.proofs.Common.{subst}
use Rattle.std.specs.Prelude.{IfOk, IfSome}
use Rattle.xk_ask.specs.ProgramTexts.{ProgramTextValue, no_source}
use Rattle.xk_io.specs.Writing.{AppendsBeginning}
use Rattle.xk_ask.specs.Asking.{BeginsByAnswers, IsByAnswers}
use Rattle.xk_ask.specs.Play.{told_text}
use Rattle.xk_ask.proofs.PlayLemmas.{nothing_begun_by}
use Rattle.xk_ask.proofs.game.module_ask.Goals as goal

pub returns-clause-begins : goal.returns-clause-begins
returns-clause-begins g c =
    subst (λ (p : ProgramTextValue). IfSome (g.R.Source.remaining c.args.input.now) (λ bytes. AppendsBeginning (g.E.Sink.contents c.args.err.now) (g.E.Sink.contents c.play_whole.new.err)
    (told_text p c.args.verified.now c.args.arguments.now bytes))) c.in_ok-unknown.ensures c.play_whole.ensures.begins

pub returns-clause-by_answers : goal.returns-clause-by_answers
returns-clause-by_answers g c =
    subst (λ (p : ProgramTextValue). IfOk c.play_whole.result (λ r. IsByAnswers p c.args.verified.now c.args.arguments.now
    (g.R.Source.remaining c.args.input.now) r.log.items
    (g.E.Sink.contents c.args.err.now) (g.E.Sink.contents c.play_whole.new.err))) c.in_ok-unknown.ensures c.play_whole.ensures.by_answers

pub returns-clause-begins_by : goal.returns-clause-begins_by
returns-clause-begins_by g c =
    subst (λ (p : ProgramTextValue). BeginsByAnswers p c.args.verified.now c.args.arguments.now (g.R.Source.remaining c.args.input.now)
    (g.E.Sink.contents c.args.err.now) (g.E.Sink.contents c.play_whole.new.err)) c.in_ok-unknown.ensures c.play_whole.ensures.begins_by

pub returns-in_err-unknown-clause-begins_by : goal.returns-in_err-unknown-clause-begins_by
returns-in_err-unknown-clause-begins_by g c =
    nothing_begun_by no_source c.args.verified.now c.args.arguments.now (g.R.Source.remaining c.args.input.now)
    (g.E.Sink.contents c.args.err.now)
