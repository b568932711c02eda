use Rattle.std.proofs.Common.{length, ap, arith}
use Rattle.xk_replay.proofs.LivingLemmas.{living_few}
use Rattle.xk_replay.proofs.chart_lists.ChartLists.fill.Goals as goal

pub list-requires : goal.list-requires
list-requires c = omega (arith, ap length c.requires.members, living_few c.args.core.now.world)
