use Rattle.std.proofs.Common.{length, ap, arith}
use Rattle.xk_core.specs.Core.{CoreValue}
use Rattle.xk_scheduler.proofs.EnabledSetLemmas.{listed_few}
use Rattle.xk_greedy.proofs.rounds.enabled.Goals as goal

pub list-requires : goal.list-requires
list-requires c =
    let driver = c.args.run.now.driver in
    let few = listed_few driver.module_run driver.world in
    omega (
      arith,
      few,
      c.activities.ensures.count,
      ap (λ (x : CoreValue). length x.world.activities) c.core.ensures,
      c.in_ok-list.ensures.capacity,
    )
