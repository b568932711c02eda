use Rattle.xk_cli.proofs.NumeralLemmas.{count_none, count_some}
use Rattle.xk_cli.proofs.numbers.count_named.Goals as goal

pub returns-in-Ok : goal.returns-in-Ok
returns-in-Ok c = count_some c.args.text.now c.in-Ok.count c.in-Ok.ensures.value.0

pub returns-in-Err : goal.returns-in-Err
returns-in-Err c = count_none c.args.text.now c.in-Err.ensures.value.0
