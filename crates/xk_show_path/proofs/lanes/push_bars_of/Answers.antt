use Rattle.xk_show_lanes.proofs.LaneLemmas.{clock_there}
use Rattle.xk_show_path.proofs.lanes.push_bars_of.Goals as goal

pub push_bar-requires : goal.push_bar-requires
push_bar-requires c = clock_there c.args.core.now.world c.args.clocks.now c.loop-clock.clock-index c.loop-clock-test.true c.requires
