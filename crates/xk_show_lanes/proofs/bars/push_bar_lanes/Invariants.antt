use Rattle.std.proofs.Common.{◌≡◌, ◌++◌}
use Rattle.xk_show_events.specs.Worlds.{each_below}
use Rattle.xk_show_lanes.specs.Lanes.{bar_lane}
use Rattle.xk_show_lanes.proofs.bars.push_bar_lanes.Given as goal

-- the lanes so far were added
abbrev pub invariant-loop-lane : goal.invariant-loop-lane
invariant-loop-lane l = l.line.items ≡ l.fn.line.items ++ each_below (bar_lane l.grid l.core.world l.clock) l.lane
