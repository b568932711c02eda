use Rattle.xk_serve.specs.Answer.{task_of}
use Rattle.xk_serve.specs.Devices.{ErrBegins}
use Rattle.xk_program.specs.declared.fault.Fault.TheVariants as fault
use Rattle.std.proofs.Common.{inl, refl}
use Rattle.xk_serve.proofs.ReplyLemmas.{begun_known, line_begins, of_known, said_begins, told_answers, written_answers}
use Rattle.xk_serve.proofs.ReplyLemmas.{memory_alone, memory_answers, memory_begins, none_begins}
use Rattle.xk_serve.proofs.SomeBytesLemmas.{told_by_some, written_by_some}
use Rattle.xk_serve.proofs.lone_caller.serve_alone.Goals as goal

pub returns-in-Ok-ending-clause-answered : goal.returns-in-Ok-ending-clause-answered
returns-in-Ok-ending-clause-answered g c =
    written_answers (task_of c.args.job.now) (g.P.Source.remaining c.args.program.now)
    (g.L.Source.remaining c.args.log_in.now) c.in-Ok.done _ _ _ _ _ _
    c.print.result _ c.in-Ok.ensures.done c.print.ensures.printed

pub returns-in-Ok-ending-clause-out_begins : goal.returns-in-Ok-ending-clause-out_begins
returns-in-Ok-ending-clause-out_begins g c =
    begun_known (task_of c.args.job.now) (g.P.Source.remaining c.args.program.now)
    (g.L.Source.remaining c.args.log_in.now) c.in-Ok.done _ _ _ _ c.in-Ok.ensures.done c.print.ensures.begun

pub returns-clause-answered : goal.returns-clause-answered
returns-clause-answered g c =
    told_answers _ _ _ _ _ _ _ _ _ _ _ _ (task_of c.args.job.now) (g.P.Source.remaining c.args.program.now)
    (g.L.Source.remaining c.args.log_in.now) _ c.in-Err.ensures.fault c.in-Err.ensures.noted c.refuse.ensures
    (g.K.Sink.contents c.args.log_out.now)

pub returns-clause-out_begins : goal.returns-clause-out_begins
returns-clause-out_begins g c =
    said_begins _ _ _ _ _ _ _ _ _ _ _ _ (task_of c.args.job.now) (g.P.Source.remaining c.args.program.now)
    (g.L.Source.remaining c.args.log_in.now) _ c.in-Err.ensures.fault c.in-Err.ensures.noted c.refuse.ensures
    (g.K.Sink.contents c.args.log_out.now)

pub returns-clause-err_begins : goal.returns-clause-err_begins
returns-clause-err_begins g c =
    line_begins _ _ _ _ _ _ _ _ _ _ _ _ (task_of c.args.job.now) (g.P.Source.remaining c.args.program.now)
    (g.L.Source.remaining c.args.log_in.now) _ c.in-Err.ensures.fault c.in-Err.ensures.noted c.refuse.ensures
    (g.K.Sink.contents c.args.log_out.now)

pub returns-in-Ok-ending-clause-err_begins : goal.returns-in-Ok-ending-clause-err_begins
returns-in-Ok-ending-clause-err_begins g c =
    let was = g.E.Sink.contents c.args.err.now in
    let is = g.E.Sink.contents c.print.new.err in
    of_known (task_of c.args.job.now) (g.P.Source.remaining c.args.program.now) (g.L.Source.remaining c.args.log_in.now)
    (λ bytes logged. ErrBegins (task_of c.args.job.now) bytes logged was is)
    (λ bytes logged. (fault.Device, inl refl, c.print.ensures.err_beginning))

-- ---- where there is no memory for the ending

pub returns-in-Ok-clause-answered : goal.returns-in-Ok-clause-answered
returns-in-Ok-clause-answered g c =
    memory_answers (task_of c.args.job.now) (g.P.Source.remaining c.args.program.now) (g.L.Source.remaining c.args.log_in.now)
    _ _ _ _ c.report.result c.report.ensures _ _ _ _

pub returns-in-Ok-clause-out_begins : goal.returns-in-Ok-clause-out_begins
returns-in-Ok-clause-out_begins g c =
    none_begins (task_of c.args.job.now) (g.P.Source.remaining c.args.program.now) (g.L.Source.remaining c.args.log_in.now)
    (g.O.Sink.contents c.args.out.now) (g.K.Sink.contents c.args.log_out.now)

pub returns-in-Ok-clause-err_begins : goal.returns-in-Ok-clause-err_begins
returns-in-Ok-clause-err_begins g c =
    memory_begins (task_of c.args.job.now) (g.P.Source.remaining c.args.program.now) (g.L.Source.remaining c.args.log_in.now)
    _ _ _ _ c.report.result c.report.ensures

-- ---- of some bytes

pub returns-in-Ok-ending-clause-by_some : goal.returns-in-Ok-ending-clause-by_some
returns-in-Ok-ending-clause-by_some g c =
    written_by_some (task_of c.args.job.now) (g.P.Source.remaining c.args.program.now) (g.L.Source.remaining c.args.log_in.now) _
    c.outcome.result
    _ _ _ _ _ _ c.print.result c.in-Ok.done _ c.in-Ok.is c.outcome.ensures.by_some c.print.ensures.printed

pub returns-in-Ok-clause-by_some : goal.returns-in-Ok-clause-by_some
returns-in-Ok-clause-by_some g c memory device =
    absurd (memory_alone (task_of c.args.job.now) (g.P.Source.remaining c.args.program.now) (g.L.Source.remaining c.args.log_in.now)
    _ _ _ _ c.report.result c.report.ensures memory device)

pub returns-clause-by_some : goal.returns-clause-by_some
returns-clause-by_some g c =
    told_by_some (task_of c.args.job.now) (g.P.Source.remaining c.args.program.now) (g.L.Source.remaining c.args.log_in.now) _
    c.outcome.result
    c.in-Err.refusal _ _ _ _ _ _ _ _ c.refuse.result (g.K.Sink.contents c.args.log_out.now) c.in-Err.is c.outcome.ensures.by_some
    c.refuse.ensures
