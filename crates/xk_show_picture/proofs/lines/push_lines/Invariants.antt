use Rattle.std.proofs.Common.{◌≡◌, ◌++◌}
use Rattle.xk_show_events.specs.Worlds.{each_below}
use Rattle.xk_show_picture.specs.Picture.{line}
use Rattle.xk_show_picture.proofs.lines.push_lines.Given as goal

-- the lanes so far were added
abbrev pub invariant-loop-lane : goal.invariant-loop-lane
invariant-loop-lane l = l.out.items ≡ l.fn.out.items ++ each_below (line l.sheet l.core.module_run l.core.world l.row) l.lane
