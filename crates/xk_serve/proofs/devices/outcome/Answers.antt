use Rattle.std.proofs.Common.{refl, sym}
use Rattle.xk_serve.specs.Answer.{task_of}
use Rattle.xk_serve.proofs.ExplanationLemmas.{quiet_of}
use Rattle.xk_serve.proofs.LongTextLemmas.{kept_done, told_stands}
use Rattle.xk_serve.proofs.NoteLemmas.{kept_noted, unread_note, unread_noted}
use Rattle.xk_serve.proofs.SomeBytesLemmas.{may_be_kept, read_stands, some_bytes, unread_stands}
use Rattle.xk_serve.proofs.devices.outcome.Goals as goal

-- ---- where FILE can't be read

pub returns-in-Err-clause-noted : goal.returns-in-Err-clause-noted
returns-in-Err-clause-noted g c =
    unread_noted (task_of c.args.job.now) (g.P.Source.remaining c.args.program.now) c.unnoted.result.note.now _ _
    c.unnoted.result.refused.fault (rw (sym c.unnoted.ensures.fault) at c.in-Err.ensures.failed) c.unnoted.ensures.note

pub returns-in-Err-clause-by_some : goal.returns-in-Err-clause-by_some
returns-in-Err-clause-by_some g c =
    let t = task_of c.args.job.now in
    let program = g.P.Source.remaining c.args.program.now in
    let refused = c.unnoted.result.refused in
    record {
      bytes = some_bytes t.form program;
      are = may_be_kept t.form program;
      done = tt;
      against = unread_stands t (some_bytes t.form program) (g.L.Source.remaining c.args.log_in.now) _ refused.fault refused.said.items
          (rw c.unnoted.ensures.fault c.in-Err.ensures.failed) refl c.unnoted.ensures.said;
      noted = unread_note t.doing (some_bytes t.form program) c.unnoted.result.note.now _ _ refused.fault
          (rw (sym c.unnoted.ensures.fault) at c.in-Err.ensures.failed) c.unnoted.ensures.note;
    }

-- ---- where it comes to something

pub returns-in-Ok-outcome_of-clause-done : goal.returns-in-Ok-outcome_of-clause-done
returns-in-Ok-outcome_of-clause-done g c =
    kept_done (task_of c.args.job.now) (g.P.Source.remaining c.args.program.now) (g.L.Source.remaining c.args.log_in.now)
    c.in-Ok.bytes.items c.in-Ok-outcome_of.done c.in-Ok.ensures.kept (rw c.deref.ensures.value at c.in-Ok-outcome_of.ensures.done)

pub returns-in-Ok-outcome_of-clause-by_some : goal.returns-in-Ok-outcome_of-clause-by_some
returns-in-Ok-outcome_of-clause-by_some g c = record {
  bytes = c.in-Ok.bytes.items;
  are = c.in-Ok.ensures.kept;
  done = rw c.deref.ensures.value at c.in-Ok-outcome_of.ensures.done;
  against = tt;
  noted = tt;
}

-- ---- where something stands against it

pub returns-clause-fault : goal.returns-clause-fault
returns-clause-fault g c =
    let t = task_of c.args.job.now in
    let refused = c.noted.result.refused in
    told_stands t (g.P.Source.remaining c.args.program.now) (g.L.Source.remaining c.args.log_in.now) c.in-Ok.bytes.items _
    refused.fault refused.said.items c.in-Ok.ensures.no_fault c.in-Ok.ensures.kept
    (rw c.noted.ensures.refused (rw c.deref.ensures.value at c.in-Err-outcome_of.ensures.fault))
    (rw c.noted.ensures.refused (rw c.deref.ensures.value at c.in-Err-outcome_of.ensures.said))

pub returns-clause-noted : goal.returns-clause-noted
returns-clause-noted g c =
    kept_noted (task_of c.args.job.now) (g.P.Source.remaining c.args.program.now) c.in-Ok.bytes.items c.noted.result.note.now
    c.noted.result.refused.fault c.in-Ok.ensures.kept (rw c.deref-in-Err-outcome_of.ensures.value at c.noted.ensures.note)

pub returns-clause-quiet : goal.returns-clause-quiet
returns-clause-quiet g c =
    quiet_of (task_of c.args.job.now) c.deref.result.now c.noted.result.refused.fault c.noted.result.refused.said.items
    (rw c.noted.ensures.refused c.in-Err-outcome_of.ensures.said)

pub returns-clause-by_some : goal.returns-clause-by_some
returns-clause-by_some g c =
    let t = task_of c.args.job.now in
    let refused = c.noted.result.refused in
    record {
      bytes = c.in-Ok.bytes.items;
      are = c.in-Ok.ensures.kept;
      done = tt;
      against = read_stands t c.in-Ok.bytes.items (g.L.Source.remaining c.args.log_in.now) _ refused.fault refused.said.items
          c.in-Ok.ensures.no_fault
          (rw c.noted.ensures.refused (rw c.deref.ensures.value at c.in-Err-outcome_of.ensures.fault))
          (rw c.noted.ensures.refused (rw c.deref.ensures.value at c.in-Err-outcome_of.ensures.said));
      noted = rw c.deref-in-Err-outcome_of.ensures.value at c.noted.ensures.note;
    }
