use Rattle.std.proofs.Common.{◌∙◌, ◌++◌, ◌∷◌, [], ap}
use Rattle.xk_types.specs.Logs.{one_step_of}
use Rattle.xk_types.proofs.LogEntryLemmas.{one_step_is}
use Rattle.xk_scheduler.proofs.logged_run.note.Goals as goal

pub returns-clause-log : goal.returns-clause-log
returns-clause-log c =
    c.enter.ensures
    ∙ ap (λ e. c.args.log.now.items ++ e ∷ []) (one_step_is c.turn.inside.0.0.0 _ ∙ ap (λ t. one_step_of t.act) c.turn.view_is)
