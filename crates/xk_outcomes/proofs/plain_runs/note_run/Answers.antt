use Rattle.std.proofs.lemmas.Result.{on_ok_weaker}
use Rattle.std.proofs.Common.{arith}
use Rattle.xk_outcomes.proofs.PlainRunLemmas.{more_none, more_then, of_outcome, shown_either}
use Rattle.xk_outcomes.proofs.plain_runs.note_run.Goals as goal

pub returns-in_err-new-clause-more : goal.returns-in_err-new-clause-more
returns-in_err-new-clause-more g c =
    let m = c.args.verified.now in
    let args = c.args.arguments.now in
    let list = c.args.list.now in
    more_then c.args.order m args 0 0 1 list list list (omega arith) (more_none c.args.order m args list)
    (more_none c.args.order m args list)

pub returns-clause-more : goal.returns-clause-more
returns-clause-more g c = record {
  distinct = c.put.ensures.distinct;
  shown = shown_either c.args.order _ c.args.verified.now c.args.arguments.now c.args.list.now c.put.new.self c.in_ok-new.new
      c.put.ensures.each c.in_ok-new.ensures;
  kept = c.put.ensures.kept;
  few = c.put.ensures.one_more;
}

pub returns-clause-listed : goal.returns-clause-listed
returns-clause-listed g c =
    on_ok_weaker c.put.result
    (λ there. of_outcome c.args.order _ c.args.verified.now c.args.arguments.now c.in_ok-new.new c.put.new.self c.in_ok-new.ensures there)
    c.put.ensures.listed
