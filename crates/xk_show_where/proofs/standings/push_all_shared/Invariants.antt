use Rattle.std.proofs.Common.{◌≡◌, ◌++◌}
use Rattle.xk_show_events.specs.Worlds.{each_below}
use Rattle.xk_show_where.specs.Where.{shared_line}
use Rattle.xk_show_where.proofs.standings.push_all_shared.Given as goal

-- the lines so far were added
abbrev pub invariant-loop-number : goal.invariant-loop-number
invariant-loop-number l = l.out.items ≡ l.fn.out.items ++ each_below (shared_line l.cells) l.number
