use Rattle.std.proofs.Common.{length, ap, arith}
use Rattle.xk_core.specs.FinishView.{with_finishes}
use Rattle.xk_core.proofs.CoreLemmas.{core_clocks}
use Rattle.xk_core.proofs.machine.Core.clocks.Goals as goal

pub overflow_cast-result : goal.overflow_cast-result
overflow_cast-result c = omega (arith, core_clocks c.self.inside.state.module_run (with_finishes c.self.inside.finishes c.self.inside.state.world) c.self.invariant.0, c.clock_count.ensures, ap length c.standings.ensures.told)
