use Rattle.std.proofs.Common.{ap}
use Rattle.xk_core.specs.Core.{CoreValue}
use Rattle.xk_show_rounds.proofs.RoundLaneLemmas.{lanes_are}
use Rattle.xk_show_rounds.proofs.lanes.round_lanes.Goals as goal

pub returns-clause-text : goal.returns-clause-text
returns-clause-text c =
    let legal = c.of-legal.ensures in
    lanes_are _ _ _ _ _ c.whole.result _ _ _ _ _ _ _ legal.module legal.log (ap (λ (k : CoreValue). k.world) legal.core)
    c.whole.ensures c.in_ok-rounds.ensures c.in_ok-columns.ensures.names c.in_ok-columns.ensures.grid c.in_ok-text.ensures
