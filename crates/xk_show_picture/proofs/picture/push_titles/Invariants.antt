use Rattle.std.proofs.Common.{◌≡◌, ◌++◌}
use Rattle.xk_show_events.specs.Worlds.{each_below}
use Rattle.xk_show_picture.specs.Picture.{lane_head}
use Rattle.xk_show_picture.proofs.picture.push_titles.Given as goal

-- the titles so far were added
abbrev pub invariant-loop-lane : goal.invariant-loop-lane
invariant-loop-lane l = l.out.items ≡ l.fn.out.items ++ each_below (lane_head l.sheet) l.lane
