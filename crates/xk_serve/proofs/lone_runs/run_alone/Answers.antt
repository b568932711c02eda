use Rattle.std.proofs.lemmas.Result.{IfOk-weaker}
use Rattle.std.specs.Prelude.{option_map}
use Rattle.xk_serve.proofs.LoneRunLemmas.{lone_workers}
use Rattle.xk_serve.proofs.lone_runs.run_alone.Goals as goal

pub returns-in-Workers : goal.returns-in-Workers
returns-in-Workers c =
    let m = c.args.verified.now in
    let args = c.args.arguments.now in
    IfOk-weaker c.run_in_order-in-Workers.result _ _
    (λ run h. rw c.in-Workers.is
    (lone_workers c.in-Workers.field-0.count c.args.keeps_log m args run.printed.items run.steps run.rounds
    (option_map (λ es. es.items) run.log) h))
    c.run_in_order-in-Workers.ensures
