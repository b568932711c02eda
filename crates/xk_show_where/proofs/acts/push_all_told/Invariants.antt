use Rattle.std.proofs.Common.{◌≡◌, ◌++◌}
use Rattle.xk_show_events.specs.Worlds.{each_below}
use Rattle.xk_show_where.specs.Where.{told_act}
use Rattle.xk_show_where.proofs.acts.push_all_told.Given as goal

-- the lines so far were added
abbrev pub invariant-loop-act : goal.invariant-loop-act
invariant-loop-act l = l.out.items ≡ l.fn.out.items ++ each_below (told_act l.places l.core.module_run l.core.world) l.act
