use Rattle.std.proofs.Common.{◌∙◌, ap, sym, inl, inr, option_map}
use Rattle.std.specs.Prelude.{is_some}
use Rattle.x10clock.proofs.AnswerLemmas.{alone_ends, none_opened, not_answered, some_unlogged, unlogged, unopened_told}
use Rattle.x10clock.proofs.on_log.Goals as goal

pub returns-in-Ok-Ok-clause-answered : goal.returns-in-Ok-Ok-clause-answered
returns-in-Ok-Ok-clause-answered g c =
    let done = c.on_devices-in-Ok-Ok in
    unlogged c.args.request.now (g.P.Read.remaining c.args.program) (g.L.Source.remaining c.args.input.now) (g.L.Source.remaining done.new.input) done.result
    (g.O.Sink.contents c.args.out.now) (g.O.Sink.contents done.new.out) (g.E.Sink.contents c.args.err.now) (g.E.Sink.contents done.new.err)
    _ _ _ done.ensures.answered

pub returns-in_default-clause-answered : goal.returns-in_default-clause-answered
returns-in_default-clause-answered g c =
    let done = c.on_devices in
    unlogged c.args.request.now (g.P.Read.remaining c.args.program) (g.L.Source.remaining c.args.input.now) (g.L.Source.remaining done.new.input) done.result
    (g.O.Sink.contents c.args.out.now) (g.O.Sink.contents done.new.out) (g.E.Sink.contents c.args.err.now) (g.E.Sink.contents done.new.err)
    _ _ _ done.ensures.answered

pub returns-in-Ok-Err-clause-answered : goal.returns-in-Ok-Err-clause-answered
returns-in-Ok-Err-clause-answered g c =
    let writes = ap is_some (sym c.path_of_log.ensures) ∙ ap (λ o. is_some (option_map (λ path. path.now) o)) c.in-Some.is in
    inr (writes, (c.in-Ok-Err.over, rw c.over_line.ensures at c.tell.ensures))

pub returns-in-Err-clause-answered : goal.returns-in-Err-clause-answered
returns-in-Err-clause-answered g c =
    not_answered c.args.request.now (g.P.Read.remaining c.args.program) (g.L.Source.remaining c.args.input.now) (g.L.Source.remaining c.args.input.now)
    c.not_opened.result (g.O.Sink.contents c.args.out.now) (g.O.Sink.contents c.args.out.now) (g.E.Sink.contents c.args.err.now)
    (g.E.Sink.contents c.not_opened.new.err) _ _ _ c.not_opened.ensures.status

pub returns-in-Err-clause-memory_err : goal.returns-in-Err-clause-memory_err
returns-in-Err-clause-memory_err g c memory =
    alone_ends c.args.request.now (g.P.Read.remaining c.args.program) (g.L.Source.remaining c.args.input.now) _ (g.E.Sink.contents c.args.err.now)
    (g.E.Sink.contents c.not_opened.new.err) (c.not_opened.ensures.memory_err memory)

pub returns-in-Err-clause-device_err : goal.returns-in-Err-clause-device_err
returns-in-Err-clause-device_err g c failed =
    unopened_told c.args.request.now (g.P.Read.remaining c.args.program) (g.L.Source.remaining c.args.input.now) (g.E.Sink.contents c.args.err.now)
    (g.E.Sink.contents c.not_opened.new.err) _ _ (c.not_opened.ensures.device_err failed)

-- ---- on some bytes

pub returns-in-Ok-Ok-clause-by_some : goal.returns-in-Ok-Ok-clause-by_some
returns-in-Ok-Ok-clause-by_some g c memory device =
    let done = c.on_devices-in-Ok-Ok in
    inl (some_unlogged c.args.request.now (g.P.Read.remaining c.args.program) (g.L.Source.remaining c.args.input.now)
    (g.L.Source.remaining done.new.input)
    done.result (g.O.Sink.contents c.args.out.now) (g.O.Sink.contents done.new.out) (g.E.Sink.contents c.args.err.now) (g.E.Sink.contents
    done.new.err)
    _ _ (done.ensures.by_some memory device))

pub returns-in_default-clause-by_some : goal.returns-in_default-clause-by_some
returns-in_default-clause-by_some g c memory device =
    let done = c.on_devices in
    inl (some_unlogged c.args.request.now (g.P.Read.remaining c.args.program) (g.L.Source.remaining c.args.input.now)
    (g.L.Source.remaining done.new.input)
    done.result (g.O.Sink.contents c.args.out.now) (g.O.Sink.contents done.new.out) (g.E.Sink.contents c.args.err.now) (g.E.Sink.contents
    done.new.err)
    _ _ (done.ensures.by_some memory device))

pub returns-in-Ok-Err-clause-by_some : goal.returns-in-Ok-Err-clause-by_some
returns-in-Ok-Err-clause-by_some g c memory device =
    let writes = ap is_some (sym c.path_of_log.ensures) ∙ ap (λ o. is_some (option_map (λ path. path.now) o)) c.in-Some.is in
    inr (writes, (c.in-Ok-Err.over, rw c.over_line.ensures at c.tell.ensures))

pub returns-in-Err-clause-by_some : goal.returns-in-Err-clause-by_some
returns-in-Err-clause-by_some g c memory device = none_opened c.not_opened.result _ c.not_opened.ensures.status memory device
