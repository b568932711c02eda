use Rattle.std.proofs.Common.{inl, inr}
use Rattle.std.specs.Prelude.{string_bytes}
use Rattle.xk_serve_ask.proofs.AskedRunLemmas.{ends_asking, ends_asking_device, fault_begins_line, fault_replies}
use Rattle.xk_serve_ask.proofs.AskedRunLemmas.{fault_reply_of, nothing_begins, out_status, reports_begun}
use Rattle.xk_serve_ask.proofs.AskedRunLemmas.{reports_device, reports_memory, reports_refusal, run_begins}
use Rattle.xk_serve_ask.proofs.AskedRunLemmas.{run_begins_line, run_replies, run_reply, stands_counts, stands_told}
use Rattle.xk_serve_ask.proofs.AskedRunLemmas.{unread_alone, unread_begins_line, unread_ends, unread_ends_device}
use Rattle.xk_serve_ask.proofs.AskedRunLemmas.{unread_replies}
use Rattle.xk_serve_ask.proofs.asked_run.serve_asked.Goals as goal

-- ---- a run

pub returns-in-Ok-asked_of-clause-by_hand : goal.returns-in-Ok-asked_of-clause-by_hand
returns-in-Ok-asked_of-clause-by_hand g c =
    let r = c.in-Ok-asked_of.found in
    run_replies g.E.Sink.contents c.args.err.now c.asked_of.new.err c.print.new.err c.args.form (g.P.Source.remaining c.args.program.now) c.in-Ok.bytes.items
    c.args.arguments.now (g.L.Source.remaining c.args.input.now) (g.L.Source.remaining c.asked_of.new.input) r.played.log.items r.played.printed.items
    r.played.steps
    r.played.whole c.args.keeps_log _ _ _ _ _ _ _ _ _ c.print.result c.in-Ok.ensures.kept
    (rw c.deref.ensures.value at c.in-Ok-asked_of.ensures.done) c.in-Ok-asked_of.ensures.ending c.print.ensures.printed

pub returns-in-Ok-asked_of-clause-out_begins : goal.returns-in-Ok-asked_of-clause-out_begins
returns-in-Ok-asked_of-clause-out_begins g c =
    let r = c.in-Ok-asked_of.found in
    run_begins c.args.form (g.P.Source.remaining c.args.program.now) c.in-Ok.bytes.items c.args.arguments.now _ _ _ _ r.played.log.items r.played.printed.items
    r.played.steps r.played.whole c.args.keeps_log _ _ _ _ _ c.in-Ok.ensures.kept
    (rw c.deref.ensures.value at c.in-Ok-asked_of.ensures.done) c.in-Ok-asked_of.ensures.ending c.print.ensures.begun

pub returns-in-Ok-asked_of-clause-err_begins : goal.returns-in-Ok-asked_of-clause-err_begins
returns-in-Ok-asked_of-clause-err_begins g c =
    run_begins_line c.args.form (g.P.Source.remaining c.args.program.now) c.in-Ok.bytes.items c.args.arguments.now (g.L.Source.remaining c.args.input.now)
    (g.E.Sink.contents c.args.err.now) (g.E.Sink.contents c.asked_of.new.err) (g.E.Sink.contents c.print.new.err) c.in-Ok.ensures.kept
    (rw c.deref.ensures.value at c.asked_of.ensures.begins) c.print.ensures.err_beginning

pub returns-in-Ok-asked_of-clause-device_err : goal.returns-in-Ok-asked_of-clause-device_err
returns-in-Ok-asked_of-clause-device_err g c failed =
    ends_asking_device c.args.form (g.P.Source.remaining c.args.program.now) c.in-Ok.bytes.items c.args.arguments.now (g.L.Source.remaining c.args.input.now)
    (g.E.Sink.contents c.args.err.now) (g.E.Sink.contents c.asked_of.new.err) (g.E.Sink.contents c.print.new.err) _ _ _ c.in-Ok.ensures.kept
    (rw c.deref.ensures.value at c.asked_of.ensures.begins) (inl c.in-Ok-asked_of.ensures.no_fault.1) (c.print.ensures.told failed)

pub returns-in-Ok-asked_of-clause-memory_err : goal.returns-in-Ok-asked_of-clause-memory_err
returns-in-Ok-asked_of-clause-memory_err g c wanting =
    let r = c.in-Ok-asked_of.found in
    absurd ((out_status c.asked_of.new.err c.print.new.err r.played.log.items r.played.printed.items
    (string_bytes r.ending) r.played.whole c.args.keeps_log _ _ _ _ _ _ _ _
    c.print.result c.print.ensures.printed).0 wanting)

pub returns-in-Ok-asked_of-clause-unread : goal.returns-in-Ok-asked_of-clause-unread
returns-in-Ok-asked_of-clause-unread g c refused =
    let r = c.in-Ok-asked_of.found in
    absurd ((out_status c.asked_of.new.err c.print.new.err r.played.log.items r.played.printed.items
    (string_bytes r.ending) r.played.whole c.args.keeps_log _ _ _ _ _ _ _ _
    c.print.result c.print.ensures.printed).1 refused)

-- ---- what stands against one

pub returns-clause-by_hand : goal.returns-clause-by_hand
returns-clause-by_hand g c =
    fault_replies c.args.form (g.P.Source.remaining c.args.program.now) c.in-Ok.bytes.items c.args.arguments.now c.args.keeps_log c.in-Err-asked_of.fault _
    _ _ _
    (g.L.Source.remaining c.args.input.now) (g.L.Source.remaining c.asked_of.new.input) (g.E.Sink.contents c.args.err.now)
    (g.E.Sink.contents c.asked_of.new.err) _
    (g.O.Sink.contents c.args.out.now) (g.K.Sink.contents c.args.log_out.now) _ _
    c.report-in-Err-asked_of.result c.in-Ok.ensures.kept (rw c.deref.ensures.value at c.in-Err-asked_of.ensures.against) c.report-in-Err-asked_of.ensures

pub returns-clause-out_begins : goal.returns-clause-out_begins
returns-clause-out_begins g c =
    nothing_begins c.args.form (g.P.Source.remaining c.args.program.now) c.args.arguments.now c.args.keeps_log (g.L.Source.remaining c.args.input.now)
    (g.O.Sink.contents c.args.out.now) (g.K.Sink.contents c.args.log_out.now)

pub returns-clause-err_begins : goal.returns-clause-err_begins
returns-clause-err_begins g c =
    fault_begins_line c.args.form (g.P.Source.remaining c.args.program.now) c.in-Ok.bytes.items c.args.arguments.now (g.L.Source.remaining c.args.input.now)
    c.in-Err-asked_of.fault (g.E.Sink.contents c.args.err.now) (g.E.Sink.contents c.asked_of.new.err) (g.E.Sink.contents c.report-in-Err-asked_of.new.err)
    c.in-Ok.ensures.kept (rw c.deref.ensures.value at c.asked_of.ensures.begins)
    (stands_told _ _ _ _ _ _ _ _ _ _ (rw c.deref.ensures.value at c.in-Err-asked_of.ensures.against))
    (reports_begun _ _ _ _ _ _ c.report-in-Err-asked_of.ensures)

pub returns-clause-memory_err : goal.returns-clause-memory_err
returns-clause-memory_err g c wanting =
    ends_asking c.args.form (g.P.Source.remaining c.args.program.now) c.in-Ok.bytes.items c.args.arguments.now (g.L.Source.remaining c.args.input.now) _
    (g.E.Sink.contents c.args.err.now) (g.E.Sink.contents c.asked_of.new.err) (g.E.Sink.contents c.report-in-Err-asked_of.new.err) c.in-Ok.ensures.kept
    (rw c.deref.ensures.value at c.asked_of.ensures.begins) (reports_memory _ _ _ _ _ _ c.report-in-Err-asked_of.ensures wanting)

pub returns-clause-device_err : goal.returns-clause-device_err
returns-clause-device_err g c failed =
    ends_asking_device c.args.form (g.P.Source.remaining c.args.program.now) c.in-Ok.bytes.items c.args.arguments.now (g.L.Source.remaining c.args.input.now)
    (g.E.Sink.contents c.args.err.now) (g.E.Sink.contents c.asked_of.new.err) (g.E.Sink.contents c.report-in-Err-asked_of.new.err) _ _ _ c.in-Ok.ensures.kept
    (rw c.deref.ensures.value at c.asked_of.ensures.begins)
    (stands_counts _ _ _ _ _ _ _ _ _ _ (rw c.deref.ensures.value at c.in-Err-asked_of.ensures.against))
    (reports_device _ _ _ _ _ _ c.report-in-Err-asked_of.ensures failed)

pub returns-clause-unread : goal.returns-clause-unread
returns-clause-unread g c refused =
    c.in-Err-asked_of.ensures.unread (reports_refusal _ _ _ _ _ _ c.report-in-Err-asked_of.ensures refused)

-- ---- where FILE can't be read

pub returns-in-Err-clause-out_begins : goal.returns-in-Err-clause-out_begins
returns-in-Err-clause-out_begins g c =
    nothing_begins c.args.form (g.P.Source.remaining c.args.program.now) c.args.arguments.now c.args.keeps_log (g.L.Source.remaining c.args.input.now)
    (g.O.Sink.contents c.args.out.now) (g.K.Sink.contents c.args.log_out.now)

pub returns-in-Err-clause-err_begins : goal.returns-in-Err-clause-err_begins
returns-in-Err-clause-err_begins g c =
    unread_begins_line c.args.form (g.P.Source.remaining c.args.program.now) c.args.arguments.now (g.L.Source.remaining c.args.input.now) _ _ c.in-Err.fault
    (g.E.Sink.contents c.args.err.now) (g.E.Sink.contents c.report.new.err) c.in-Err.ensures.failed (reports_begun _ _ _ _ _ _ c.report.ensures)

pub returns-in-Err-clause-memory_err : goal.returns-in-Err-clause-memory_err
returns-in-Err-clause-memory_err g c wanting =
    unread_ends c.args.form (g.P.Source.remaining c.args.program.now) c.args.arguments.now (g.L.Source.remaining c.args.input.now) _
    (g.E.Sink.contents c.args.err.now) (g.E.Sink.contents c.report.new.err) (reports_memory _ _ _ _ _ _ c.report.ensures wanting)

pub returns-in-Err-clause-device_err : goal.returns-in-Err-clause-device_err
returns-in-Err-clause-device_err g c failed =
    unread_ends_device c.args.form (g.P.Source.remaining c.args.program.now) c.args.arguments.now (g.L.Source.remaining c.args.input.now)
    (g.E.Sink.contents c.args.err.now) (g.E.Sink.contents c.report.new.err) _ _ (reports_device _ _ _ _ _ _ c.report.ensures failed)

pub returns-in-Err-clause-by_hand : goal.returns-in-Err-clause-by_hand
returns-in-Err-clause-by_hand g c =
    unread_replies c.args.form (g.P.Source.remaining c.args.program.now) c.args.arguments.now c.args.keeps_log _ _ c.in-Err.fault
    (g.L.Source.remaining c.args.input.now) (g.E.Sink.contents c.args.err.now) (g.E.Sink.contents c.report.new.err) (g.O.Sink.contents c.args.out.now)
    (g.K.Sink.contents c.args.log_out.now) _ _ c.report.result c.in-Err.ensures.failed c.report.ensures

-- ---- on some bytes

pub returns-in-Ok-asked_of-clause-by_some : goal.returns-in-Ok-asked_of-clause-by_some
returns-in-Ok-asked_of-clause-by_some g c memory device =
    let r = c.in-Ok-asked_of.found in
    record {
      bytes = c.in-Ok.bytes.items;
      are = c.in-Ok.ensures.kept;
      reply =
          run_reply g.E.Sink.contents c.args.err.now c.asked_of.new.err c.print.new.err c.args.form c.in-Ok.bytes.items c.args.arguments.now
          (g.L.Source.remaining c.args.input.now) (g.L.Source.remaining c.asked_of.new.input) r.played.log.items r.played.printed.items
          r.played.steps
          r.played.whole c.args.keeps_log _ _ _ _ _ _ _ _ _ c.print.result (rw c.deref.ensures.value at c.in-Ok-asked_of.ensures.done)
          c.in-Ok-asked_of.ensures.ending c.print.ensures.printed memory device;
    }

pub returns-clause-by_some : goal.returns-clause-by_some
returns-clause-by_some g c memory device = record {
  bytes = c.in-Ok.bytes.items;
  are = c.in-Ok.ensures.kept;
  reply =
      inr (fault_reply_of c.args.form c.in-Ok.bytes.items c.args.arguments.now c.in-Err-asked_of.fault _ _ _ _ (g.E.Sink.contents
      c.args.err.now)
      (g.E.Sink.contents c.asked_of.new.err) _ (g.O.Sink.contents c.args.out.now) (g.K.Sink.contents c.args.log_out.now) _ _
      c.report-in-Err-asked_of.result (rw c.deref.ensures.value at c.in-Err-asked_of.ensures.against) c.report-in-Err-asked_of.ensures
      memory device);
}

pub returns-in-Err-clause-by_some : goal.returns-in-Err-clause-by_some
returns-in-Err-clause-by_some g c memory device =
    absurd (unread_alone _ _ c.in-Err.fault (g.E.Sink.contents c.args.err.now) (g.E.Sink.contents c.report.new.err) _ _ c.report.result
    c.in-Err.ensures.failed c.report.ensures memory device)
