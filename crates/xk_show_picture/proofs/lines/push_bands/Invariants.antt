use Rattle.std.proofs.Common.{◌≡◌, ◌++◌}
use Rattle.xk_show_events.specs.Worlds.{each_below}
use Rattle.xk_show_picture.specs.Picture.{band}
use Rattle.xk_show_picture.proofs.lines.push_bands.Given as goal

-- the bands so far were added
abbrev pub invariant-loop-clock : goal.invariant-loop-clock
invariant-loop-clock l = l.out.items ≡ l.fn.out.items ++ each_below (band l.sheet l.core.world l.row) l.clock
