use Rattle.std.proofs.Common.{◌≡◌}
use Rattle.xk_show_events.specs.Worlds.{each_below}
use Rattle.xk_show_lanes.specs.Fields.{at_left}
use Rattle.xk_show_lanes.specs.Lanes.{title}
use Rattle.xk_show_rounds.proofs.rows.titles.Given as goal

-- those of the lanes so far
abbrev pub invariant-loop-lane : goal.invariant-loop-lane
invariant-loop-lane l = l.titles.items ≡ each_below (λ b. at_left l.grid.lane (title b)) l.lane
