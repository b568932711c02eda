use Rattle.std.proofs.Common.{◌≡◌, ◌++◌}
use Rattle.xk_show_events.specs.Worlds.{each_below}
use Rattle.xk_show_where.specs.Where.{clock_line}
use Rattle.xk_show_where.proofs.standings.push_clocks.Given as goal

-- the lines so far were added
abbrev pub invariant-loop-clock : goal.invariant-loop-clock
invariant-loop-clock l = l.out.items ≡ l.fn.out.items ++ each_below (clock_line l.core.world) l.clock
