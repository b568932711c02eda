use Rattle.std.proofs.Common.{◌∙◌, ap, subst}
use Rattle.std.specs.Prelude.{option_map}
use Rattle.xk_jobs.specs.Tasks.{way_value}
use Rattle.xk_answers.specs.OrderedRun.{IsFinished}
use Rattle.xk_answers.specs.Results.{way_given}
use Rattle.xk_answers.proofs.OrderedRunLemmas.{finished_run, way_taken}
use Rattle.xk_serve.proofs.commands.run_driven.Goals as goal

pub returns-clause-done : goal.returns-clause-done
returns-clause-done g c = λ logged.
    let run = c.in_ok-run.run' in
    let keeps = c.args.keeps_log in
    let args = c.args.arguments.now in
    let log = option_map (λ es. es.items) run.log in
    let accepted = c.in_ok-verified.ensures.accepted in
    let driven = ap way_value c.unwrap_or-drive.ensures ∙ way_taken c.args.drive in
    let of_module = subst (λ m. IsFinished (way_value c.unwrap_or-drive.result) keeps m args run.printed.items run.steps run.rounds log) accepted.0 c.in_ok-run.ensures in
    rw c.of_run.ensures (finished_run (way_given c.args.drive) keeps c.args.m args logged run.printed run.steps run.rounds run.log accepted.1
    (subst (λ way. IsFinished way keeps c.args.m args run.printed.items run.steps run.rounds log) driven of_module))
