use Rattle.x10clock.proofs.AnswerLemmas.{some_unread, told_unread, unopened_told, unread}
use Rattle.std.proofs.Common.{None}
use Rattle.x10clock.proofs.on_program.Goals as goal

pub returns-in_default-clause-answered : goal.returns-in_default-clause-answered
returns-in_default-clause-answered g c =
    unread c.args.request.now (g.P.Read.remaining c.args.program) _ _ c.on_log.result
    (g.O.Sink.contents c.args.out.now) (g.O.Sink.contents c.on_log.new.out) (g.E.Sink.contents c.args.err.now) (g.E.Sink.contents c.on_log.new.err)
    _ _ _ c.on_log.ensures.answered

pub returns-in_default-clause-by_some : goal.returns-in_default-clause-by_some
returns-in_default-clause-by_some g c memory device =
    some_unread c.args.request.now (g.P.Read.remaining c.args.program) _ _ c.on_log.result
    (g.O.Sink.contents c.args.out.now) (g.O.Sink.contents c.on_log.new.out) (g.E.Sink.contents c.args.err.now) (g.E.Sink.contents c.on_log.new.err)
    _ _ _ (c.on_log.ensures.by_some memory device)

pub returns-in_default-read_path-clause-by_some : goal.returns-in_default-read_path-clause-by_some
returns-in_default-read_path-clause-by_some g c memory device =
    let done = c.on_log-in_default-read_path in
    some_unread c.args.request.now (g.P.Read.remaining c.args.program) _ _ done.result
    (g.O.Sink.contents c.args.out.now) (g.O.Sink.contents done.new.out) (g.E.Sink.contents c.args.err.now) (g.E.Sink.contents done.new.err)
    _ _ _ (done.ensures.by_some memory device)

pub returns-in-Err-clause-device_err : goal.returns-in-Err-clause-device_err
returns-in-Err-clause-device_err g c failed =
    unopened_told c.args.request.now (g.P.Read.remaining c.args.program) None (g.E.Sink.contents c.args.err.now)
    (g.E.Sink.contents c.not_opened.new.err) _ _ (c.not_opened.ensures.device_err failed)

pub returns-in_default-clause-device_err : goal.returns-in_default-clause-device_err
returns-in_default-clause-device_err g c failed =
    told_unread c.args.request.now (g.P.Read.remaining c.args.program) _ (g.E.Sink.contents c.args.err.now) (g.E.Sink.contents c.on_log.new.err)
    _ _ (c.on_log.ensures.device_err failed)

pub returns-in-Ok-clause-by_some : goal.returns-in-Ok-clause-by_some
returns-in-Ok-clause-by_some g c memory device =
    let done = c.on_log-in-Ok in
    some_unread c.args.request.now (g.P.Read.remaining c.args.program) _ _ done.result
    (g.O.Sink.contents c.args.out.now) (g.O.Sink.contents done.new.out) (g.E.Sink.contents c.args.err.now) (g.E.Sink.contents done.new.err)
    _ _ _ (done.ensures.by_some memory device)
