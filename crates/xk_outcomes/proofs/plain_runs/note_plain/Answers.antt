use Rattle.std.proofs.Common.{◌-◌, arith, length, subst}
use Rattle.std.proofs.lemmas.Result.{on_ok_weaker}
use Rattle.xk_scheduler.specs.Choosers.{turn_after, turn_of}
use Rattle.xk_scheduler.specs.WholeRuns.{IsRunBy}
use Rattle.xk_outcomes.specs.PlainRuns.{IsListedIn, OfPrinted, plain_runs, plain_seeds}
use Rattle.xk_outcomes.proofs.PlainRunLemmas.{more_then, more_weaker, of_kept, without_state}
use Rattle.xk_outcomes.proofs.plain_runs.note_plain.Goals as goal

pub returns-in_err-note_run-clause-more : goal.returns-in_err-note_run-clause-more
returns-in_err-note_run-clause-more c =
    more_weaker c.args.order c.args.verified.now c.args.arguments.now 1 plain_runs c.args.list.now c.note_run.new.list (omega arith)
    c.note_run.ensures.more

pub returns-in_err-note_run-2-clause-more : goal.returns-in_err-note_run-2-clause-more
returns-in_err-note_run-2-clause-more c =
    more_then c.args.order c.args.verified.now c.args.arguments.now 1 1 plain_runs c.args.list.now c.note_run.new.list
    c.note_run-2.new.list (omega arith)
    c.note_run.ensures.more c.note_run-2.ensures.more

pub returns-in_err-note_run-3-clause-more : goal.returns-in_err-note_run-3-clause-more
returns-in_err-note_run-3-clause-more c =
    let order = c.args.order in
    let m = c.args.verified.now in
    let args = c.args.arguments.now in
    more_then order m args 2 1 plain_runs c.args.list.now c.note_run-2.new.list c.note_run-3.new.list (omega arith)
    (more_then order m args 1 1 2 c.args.list.now c.note_run.new.list c.note_run-2.new.list (omega arith) c.note_run.ensures.more
    c.note_run-2.ensures.more)
    c.note_run-3.ensures.more

pub returns-clause-more : goal.returns-clause-more
returns-clause-more c =
    let order = c.args.order in
    let m = c.args.verified.now in
    let args = c.args.arguments.now in
    let old = c.args.list.now in
    let two = c.note_run-2.new.list in
    let three = c.note_run-3.new.list in
    more_then order m args 3 plain_seeds plain_runs old three c.note_chance.new.list (omega arith)
    (more_then order m args 2 1 3 old two three (omega arith)
    (more_then order m args 1 1 2 old c.note_run.new.list two (omega arith) c.note_run.ensures.more c.note_run-2.ensures.more)
    c.note_run-3.ensures.more)
    c.note_chance.ensures.more

pub returns-clause-plain : goal.returns-clause-plain
returns-clause-plain c =
    let order = c.args.order in
    let m = c.args.verified.now in
    let args = c.args.arguments.now in
    let all = c.note_chance.new.list in
    let behind = c.note_chance.ensures.more.kept in
    on_ok_weaker c.note_chance.result
    (λ chance. record {
      first = without_state (λ enabled. 0) m args _ (IsListedIn order all)
          (of_kept _ order c.note_run.new.list all
          (λ numbers h. behind numbers (c.note_run-3.ensures.more.kept numbers (c.note_run-2.ensures.more.kept numbers h)))
          c.in_ok-note_run.ensures.listed);
      last = without_state (λ enabled. length enabled - 1) m args _ (IsListedIn order all)
          (of_kept _ order c.note_run-2.new.list all (λ numbers h. behind numbers (c.note_run-3.ensures.more.kept numbers h))
          c.in_ok-note_run-2.ensures.listed);
      round = subst (λ o. OfPrinted (IsRunBy turn_of turn_after m args o) (IsListedIn order all)) c.new.ensures
          (of_kept _ order c.note_run-3.new.list all behind c.in_ok-note_run-3.ensures.listed);
      chance = chance;
    })
    c.note_chance.ensures.listed
