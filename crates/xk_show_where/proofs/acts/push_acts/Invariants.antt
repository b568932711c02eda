use Rattle.std.proofs.Common.{◌≡◌, ◌++◌}
use Rattle.xk_show_events.specs.Worlds.{each_below}
use Rattle.xk_show_where.specs.Where.{act_line}
use Rattle.xk_show_where.proofs.acts.push_acts.Given as goal

-- the lines so far were added
abbrev pub invariant-loop-act : goal.invariant-loop-act
invariant-loop-act l = l.out.items ≡ l.fn.out.items ++ each_below (act_line l.places l.core.module_run l.core.world) l.act
