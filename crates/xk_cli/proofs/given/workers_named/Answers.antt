use Rattle.std.proofs.Common.{◌∙◌}
use Rattle.xk_cli.proofs.WorkerCountLemmas.{named_none, named_some}
use Rattle.xk_cli.proofs.given.workers_named.Goals as goal

pub returns-in-Ok : goal.returns-in-Ok
returns-in-Ok c = c.new.ensures ∙ named_some c.args.text.now c.in-Ok.count _ c.in-Ok.ensures.value.0

pub returns-in-Err : goal.returns-in-Err
returns-in-Err c = named_none c.args.text.now c.in-Err.ensures.value.0
