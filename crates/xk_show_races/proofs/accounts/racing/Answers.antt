use Rattle.std.proofs.Common.{◌∙◌}
use Rattle.std.proofs.lemmas.Result.{IfOk-weaker}
use Rattle.xk_show_races.proofs.StepLemmas.{racing_found}
use Rattle.xk_show_races.proofs.accounts.racing.Goals as goal

pub returns : goal.returns
returns c =
    let e = c.args.ended.now in
    IfOk-weaker c.by_number.result _ _
    (λ map found. racing_found c.in_ok-numbers.numbers map c.args.races.now c.deref.result.now e.module.now e.core.world.arguments e.log.items
    c.in_ok-numbers.ensures (c.deref.ensures.value ∙ c.in_ok-accounts.ensures) found)
    c.by_number.ensures
