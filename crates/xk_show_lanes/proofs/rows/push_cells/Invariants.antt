use Rattle.std.proofs.Common.{◌≡◌, ◌++◌}
use Rattle.xk_show_events.specs.Worlds.{each_below}
use Rattle.xk_show_lanes.specs.Fields.{at_left}
use Rattle.xk_show_lanes.specs.NamedLanes.{cell_of}
use Rattle.xk_show_lanes.proofs.rows.push_cells.Given as goal

-- the lanes so far were added
abbrev pub invariant-loop-lane : goal.invariant-loop-lane
invariant-loop-lane l = l.line.items
    ≡ l.fn.line.items ++ each_below (λ b. at_left l.grid.lane (cell_of l.words l.core.module_run l.core.world l.step b)) l.lane
