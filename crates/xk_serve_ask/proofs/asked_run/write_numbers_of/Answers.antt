use Rattle.std.specs.Prelude.{string_bytes}
use Rattle.xk_io.proofs.DeviceLemmas.{beginning_more, beginning_then}
use Rattle.xk_io.specs.Lines.{number_lines}
use Rattle.xk_serve_ask.proofs.asked_run.write_numbers_of.Goals as goal

pub returns-in_err-write_numbers-clause-beginning : goal.returns-in_err-write_numbers-clause-beginning
returns-in_err-write_numbers-clause-beginning g c =
    let r = c.args.run.now in
    beginning_more (g.O.Sink.contents c.args.out.now) (g.O.Sink.contents c.write_numbers.new.sink) (number_lines r.played.printed.items) (string_bytes r.ending)
    (rw c.deref.ensures.value at c.write_numbers.ensures.beginning)

pub returns-clause-beginning : goal.returns-clause-beginning
returns-clause-beginning g c =
    let r = c.args.run.now in
    beginning_then (g.O.Sink.contents c.args.out.now) (g.O.Sink.contents c.write_numbers.new.sink) (g.O.Sink.contents c.write_all.new.sink)
    (number_lines r.played.printed.items) (string_bytes r.ending) (rw c.deref.ensures.value at c.in_ok-write_numbers.ensures.all)
    (rw c.as_bytes.ensures.value at c.write_all.ensures.beginning)
