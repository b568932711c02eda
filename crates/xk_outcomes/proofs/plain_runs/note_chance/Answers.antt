use Rattle.std.proofs.Common.{◌+◌, arith, subst}
use Rattle.xk_scheduler.specs.WholeRuns.{IsRunBy}
use Rattle.xk_random.specs.Chance.{Chance, chance_after, chance_answer, chance_of}
use Rattle.xk_outcomes.specs.PlainRuns.{IsListedIn, OfPrinted, plain_seeds}
use Rattle.xk_outcomes.proofs.PlainRunLemmas.{more_none, more_then, of_kept, seeds_more}
use Rattle.xk_outcomes.proofs.plain_runs.note_chance.Goals as goal

pub loop-i-init : goal.loop-i-init
loop-i-init c = record {
  more = more_none c.args.order c.args.verified.now c.args.arguments.now c.args.list.now;
  listed = λ seed least most. absurd (omega (arith, least, most));
}

pub loop-i-preserved : goal.loop-i-preserved
loop-i-preserved c =
    let order = c.args.order in
    let m = c.args.verified.now in
    let args = c.args.arguments.now in
    let i = c.loop-i.i in
    let old = c.loop-i.list in
    let new = c.note_run.new.list in
    record {
      more = more_then order m args i 1 (i + 1) c.args.list.now old new (omega arith) c.loop-i.invariant.more c.note_run.ensures.more;
      listed = seeds_more (λ seed. OfPrinted (IsRunBy chance_answer chance_after m args (chance_of seed)) (IsListedIn order new)) i
          (λ seed least most. of_kept (IsRunBy chance_answer chance_after m args (chance_of seed)) order old new
          c.note_run.ensures.more.kept
          (c.loop-i.invariant.listed seed least most))
          (subst (λ (s : Chance). OfPrinted (IsRunBy chance_answer chance_after m args s) (IsListedIn order new)) c.new.ensures
          c.in_ok-note_run.ensures.listed);
    }

pub returns-in_err-note_run-clause-more : goal.returns-in_err-note_run-clause-more
returns-in_err-note_run-clause-more c =
    let less = c.loop-i-test.true in
    more_then c.args.order c.args.verified.now c.args.arguments.now c.loop-i.i 1 plain_seeds c.args.list.now c.loop-i.list
    c.note_run.new.list
    (omega (arith, less)) c.loop-i.invariant.more c.note_run.ensures.more

pub returns-clause-listed : goal.returns-clause-listed
returns-clause-listed c seed least most =
    let over = c.loop-i-test.false in
    c.loop-i.invariant.listed seed least (omega (arith, most, over))
