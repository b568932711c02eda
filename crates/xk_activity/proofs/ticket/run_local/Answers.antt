use Rattle.std.proofs.Common.{sym, ap, ◌∙◌}
use Rattle.xk_activity.specs.Local.{FramesValue, local, ran}
use Rattle.xk_activity.proofs.StepSequenceLemmas.{some_steps}
use Rattle.xk_activity.proofs.ticket.run_local.Goals as goal

pub invariant_of-result : goal.invariant_of-result
invariant_of-result c =
    let steps = c.run-steps.result in
    let walked = ap (λ (f : FramesValue). ran local f steps) (sym c.in-Ok.ensures.same) ∙ c.run-steps.ensures.ran in (
      record {
        some = some_steps local c.args.old c.run-steps.new.self steps c.args.max c.requires.some c.requires.next walked c.run-steps.ensures.stops;
        ran = walked;
      },
      c.run-steps.ensures.same ∙ ap (λ (f : FramesValue). f.module_run) c.in-Ok.ensures.same,
    )

pub returns-in-Ok-clause-walked : goal.returns-in-Ok-clause-walked
returns-in-Ok-clause-walked c =
    let steps = c.run-steps.result in
    let walked = ap (λ (f : FramesValue). ran local f steps) (sym c.in-Ok.ensures.same) ∙ c.run-steps.ensures.ran in record {
      some = some_steps local c.args.old c.run-steps.new.self steps c.args.max c.requires.some c.requires.next walked c.run-steps.ensures.stops;
      ran = walked;
    }
