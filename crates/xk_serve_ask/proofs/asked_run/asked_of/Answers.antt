use Rattle.std.proofs.lemmas.Result.{err_from_is_err_and}
use Rattle.xk_serve_ask.proofs.AskedRunLemmas.{asks_first, asks_nothing, meanwhile, played_by_hand, unread_refused}
use Rattle.xk_serve_ask.proofs.asked_run.asked_of.Goals as goal

pub returns-in_err-program-clause-begins : goal.returns-in_err-program-clause-begins
returns-in_err-program-clause-begins g c =
    asks_nothing c.args.form c.args.bytes.now c.args.arguments.now (g.L.Source.remaining c.args.input.now) (g.E.Sink.contents c.args.err.now)

pub returns-in_err-verified-clause-begins : goal.returns-in_err-verified-clause-begins
returns-in_err-verified-clause-begins g c =
    asks_nothing c.args.form c.args.bytes.now c.args.arguments.now (g.L.Source.remaining c.args.input.now) (g.E.Sink.contents c.args.err.now)

pub returns-in_err-played-clause-begins : goal.returns-in_err-played-clause-begins
returns-in_err-played-clause-begins g c =
    asks_first c.args.form c.args.bytes.now c.in_ok-program.program.«module» c.in_ok-verified.verified c.args.arguments.now (g.L.Source.remaining c.args.input.now)
    (g.E.Sink.contents c.args.err.now) (g.E.Sink.contents c.played_by.new.err) c.in_ok-verified.ensures.accepted.0 c.in_ok-program.ensures.module
    c.in_ok-verified.ensures.accepted.1 c.in_ok-verified.ensures.taken (c.played_by.ensures.begins c.args.form c.args.bytes.now c.in_ok-program.ensures.from)

pub returns-in_err-ending-clause-begins : goal.returns-in_err-ending-clause-begins
returns-in_err-ending-clause-begins g c =
    asks_first c.args.form c.args.bytes.now c.in_ok-program.program.«module» c.in_ok-verified.verified c.args.arguments.now (g.L.Source.remaining c.args.input.now)
    (g.E.Sink.contents c.args.err.now) (g.E.Sink.contents c.played_by.new.err) c.in_ok-verified.ensures.accepted.0 c.in_ok-program.ensures.module
    c.in_ok-verified.ensures.accepted.1 c.in_ok-verified.ensures.taken (c.played_by.ensures.begins c.args.form c.args.bytes.now c.in_ok-program.ensures.from)

pub returns-clause-begins : goal.returns-clause-begins
returns-clause-begins g c =
    asks_first c.args.form c.args.bytes.now c.in_ok-program.program.«module» c.in_ok-verified.verified c.args.arguments.now (g.L.Source.remaining c.args.input.now)
    (g.E.Sink.contents c.args.err.now) (g.E.Sink.contents c.played_by.new.err) c.in_ok-verified.ensures.accepted.0 c.in_ok-program.ensures.module
    c.in_ok-verified.ensures.accepted.1 c.in_ok-verified.ensures.taken (c.played_by.ensures.begins c.args.form c.args.bytes.now c.in_ok-program.ensures.from)

pub returns-clause-done : goal.returns-clause-done
returns-clause-done g c =
    let p = c.in_ok-played.played in
    played_by_hand c.args.form c.args.bytes.now c.in_ok-program.program.«module» c.in_ok-verified.verified c.args.arguments.now (g.L.Source.remaining c.args.input.now)
    (g.L.Source.remaining c.played_by.new.input) (g.E.Sink.contents c.args.err.now) (g.E.Sink.contents c.played_by.new.err) p.log.items p.printed.items p.steps
    p.whole c.in_ok-verified.ensures.accepted.0 c.in_ok-program.ensures.module c.in_ok-verified.ensures.accepted.1 c.in_ok-verified.ensures.taken
    c.in_ok-played.ensures.played (c.in_ok-played.ensures.answers c.args.form c.args.bytes.now c.in_ok-program.ensures.from) c.in_ok-played.ensures.rest

pub returns-in_err-played-clause-unread : goal.returns-in_err-played-clause-unread
returns-in_err-played-clause-unread g c =
    let r = c.from_residual-in_err-played in
    let p = err_from_is_err_and r.result r.ensures.1 in
    unread_refused r.result p.0 c.in_err-played.field-0.0 _ p.1 p.2 (meanwhile _ _ _ _ _ c.in_err-played.ensures.failed).0
