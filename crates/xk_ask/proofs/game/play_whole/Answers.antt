use Rattle.std.proofs.Common.{◌∙◌}
use Rattle.std.specs.Io.KnownBytes.{Appends}
use Rattle.xk_io.specs.Writing.{AppendsBeginning}
use Rattle.xk_ask.specs.Play.{told_text}
use Rattle.xk_ask.proofs.PlayLemmas.{nothing_begun, nothing_begun_by, opened_begins, opened_by, opened_log, opened_text, opened_unread}
use Rattle.xk_ask.proofs.game.play_whole.Goals as goal

pub returns-in_default-clause-begins : goal.returns-in_default-clause-begins
returns-in_default-clause-begins g c =
    nothing_begun (g.E.Sink.contents c.args.err.now) (g.R.Source.remaining c.args.input.now) (told_text c.args.text.now c.args.verified.now c.args.arguments.now)

pub returns-in-Ok-play-clause-unread : goal.returns-in-Ok-play-clause-unread
returns-in-Ok-play-clause-unread g c =
    opened_unread c.args.verified.now c.args.arguments.now c.in-Ok.game.driver _ _ (g.R.Source.remaining c.args.input.now)
    (g.R.Source.remaining c.play.new.input)
    (c.in-Ok.ensures.same ∙ c.in_ok-core.ensures) c.closed.ensures.whole c.in-Ok-play.ensures.unread

pub returns-in-Ok-play-clause-played : goal.returns-in-Ok-play-clause-played
returns-in-Ok-play-clause-played g c =
    opened_log c.args.verified.now c.args.arguments.now c.in-Ok.game.driver (g.R.Source.remaining c.args.input.now) c.in-Ok.game.log.items c.play.new.game.log.items
    c.closed.result.log.items (c.in-Ok.ensures.same ∙ c.in_ok-core.ensures) c.in-Ok.ensures.empty c.closed.ensures.log c.in-Ok-play.ensures.played

pub returns-in-Ok-play-clause-told : goal.returns-in-Ok-play-clause-told
returns-in-Ok-play-clause-told g c =
    opened_text (Appends (g.E.Sink.contents c.args.err.now) (g.E.Sink.contents c.play.new.err)) c.args.text.now
    c.args.verified.now c.args.arguments.now c.in-Ok.game.driver (g.R.Source.remaining c.args.input.now) c.in-Ok.game.log.items
    (c.in-Ok.ensures.same ∙ c.in_ok-core.ensures) c.in-Ok.ensures.empty c.in-Ok-play.ensures.told

pub returns-in-Ok-play-clause-begins : goal.returns-in-Ok-play-clause-begins
returns-in-Ok-play-clause-begins g c =
    opened_text (AppendsBeginning (g.E.Sink.contents c.args.err.now) (g.E.Sink.contents c.play.new.err)) c.args.text.now
    c.args.verified.now c.args.arguments.now c.in-Ok.game.driver (g.R.Source.remaining c.args.input.now) c.in-Ok.game.log.items
    (c.in-Ok.ensures.same ∙ c.in_ok-core.ensures) c.in-Ok.ensures.empty c.play.ensures.begins

pub returns-in-Err-clause-begins : goal.returns-in-Err-clause-begins
returns-in-Err-clause-begins g c =
    opened_text (AppendsBeginning (g.E.Sink.contents c.args.err.now) (g.E.Sink.contents c.play.new.err)) c.args.text.now
    c.args.verified.now c.args.arguments.now c.in-Ok.game.driver (g.R.Source.remaining c.args.input.now) c.in-Ok.game.log.items
    (c.in-Ok.ensures.same ∙ c.in_ok-core.ensures) c.in-Ok.ensures.empty c.play.ensures.begins

pub returns-in-Ok-play-clause-by_answers : goal.returns-in-Ok-play-clause-by_answers
returns-in-Ok-play-clause-by_answers g c =
    opened_by c.args.text.now c.args.verified.now c.args.arguments.now c.in-Ok.game.driver (g.R.Source.remaining c.args.input.now)
    c.in-Ok.game.log.items
    c.play.new.game.log.items c.closed.result.log.items (g.E.Sink.contents c.args.err.now) (g.E.Sink.contents c.play.new.err)
    (c.in-Ok.ensures.same ∙ c.in_ok-core.ensures) c.in-Ok.ensures.empty c.closed.ensures.log (returns-in-Ok-play-clause-played g c)
    (returns-in-Ok-play-clause-told g c) c.in-Ok-play.ensures.by_some

pub returns-in-Ok-play-clause-begins_by : goal.returns-in-Ok-play-clause-begins_by
returns-in-Ok-play-clause-begins_by g c =
    opened_begins c.args.text.now c.args.verified.now c.args.arguments.now c.in-Ok.game.driver (g.R.Source.remaining c.args.input.now)
    c.in-Ok.game.log.items (g.E.Sink.contents c.args.err.now) (g.E.Sink.contents c.play.new.err)
    (c.in-Ok.ensures.same ∙ c.in_ok-core.ensures) c.in-Ok.ensures.empty
    (returns-in-Ok-play-clause-begins g c) c.play.ensures.begins_some

pub returns-in-Err-clause-begins_by : goal.returns-in-Err-clause-begins_by
returns-in-Err-clause-begins_by g c =
    opened_begins c.args.text.now c.args.verified.now c.args.arguments.now c.in-Ok.game.driver (g.R.Source.remaining c.args.input.now)
    c.in-Ok.game.log.items (g.E.Sink.contents c.args.err.now) (g.E.Sink.contents c.play.new.err)
    (c.in-Ok.ensures.same ∙ c.in_ok-core.ensures) c.in-Ok.ensures.empty
    (returns-in-Err-clause-begins g c) c.play.ensures.begins_some

pub returns-in_default-clause-begins_by : goal.returns-in_default-clause-begins_by
returns-in_default-clause-begins_by g c =
    nothing_begun_by c.args.text.now c.args.verified.now c.args.arguments.now (g.R.Source.remaining c.args.input.now) (g.E.Sink.contents c.args.err.now)

pub returns-in_err-core-clause-begins_by : goal.returns-in_err-core-clause-begins_by
returns-in_err-core-clause-begins_by g c =
    nothing_begun_by c.args.text.now c.args.verified.now c.args.arguments.now (g.R.Source.remaining c.args.input.now) (g.E.Sink.contents c.args.err.now)
