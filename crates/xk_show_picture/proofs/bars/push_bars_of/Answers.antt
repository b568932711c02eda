use Rattle.xk_show_lanes.proofs.LaneLemmas.{clock_there}
use Rattle.xk_show_picture.proofs.bars.push_bars_of.Goals as goal

pub push_bar_at-requires : goal.push_bar_at-requires
push_bar_at-requires c = clock_there c.args.core.now.world c.args.clocks.now c.loop-clock.clock-index c.loop-clock-test.true c.requires

pub label_of-requires : goal.label_of-requires
label_of-requires c = clock_there c.args.core.now.world c.args.clocks.now c.loop-clock.clock-index c.loop-clock-test.true c.requires
