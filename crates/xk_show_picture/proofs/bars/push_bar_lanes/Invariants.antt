use Rattle.std.proofs.Common.{◌≡◌, ◌++◌}
use Rattle.xk_show_events.specs.Worlds.{each_below}
use Rattle.xk_show_picture.specs.Picture.{lane_strokes}
use Rattle.xk_show_picture.proofs.bars.push_bar_lanes.Given as goal

-- the lanes so far were added
abbrev pub invariant-loop-lane : goal.invariant-loop-lane
invariant-loop-lane l = l.out.items ≡ l.fn.out.items ++ each_below (lane_strokes l.sheet l.core.world l.clock l.row) l.lane
