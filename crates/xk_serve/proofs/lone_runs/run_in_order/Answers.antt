use Rattle.std.proofs.Common.{◌-◌, length}
use Rattle.std.proofs.lemmas.Result.{IfOk-weaker}
use Rattle.std.specs.Prelude.{option_map}
use Rattle.xk_answers.proofs.OrderedRunLemmas.{finished_without_state}
use Rattle.xk_serve.proofs.lone_runs.run_in_order.Goals as goal

pub returns-in-First : goal.returns-in-First
returns-in-First c =
    IfOk-weaker c.run_by.result _ _
    (λ run h. rw c.in-First.is
    (finished_without_state (λ enabled. 0) c.args.verified.now c.args.arguments.now _ c.args.keeps_log run.rounds
    (option_map (λ es. es.items) run.log) run.printed.items run.steps h)) c.run_by.ensures

pub returns-in-Last : goal.returns-in-Last
returns-in-Last c =
    IfOk-weaker c.run_by-in-Last.result _ _
    (λ run h. rw c.in-Last.is
    (finished_without_state (λ enabled. length enabled - 1) c.args.verified.now c.args.arguments.now _ c.args.keeps_log run.rounds
    (option_map (λ es. es.items) run.log) run.printed.items run.steps h)) c.run_by-in-Last.ensures
