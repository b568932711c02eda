use Rattle.std.proofs.Common.{◌≡◌, ◌++◌}
use Rattle.xk_show_events.specs.Worlds.{each_below}
use Rattle.xk_show_where.specs.Where.{registration}
use Rattle.xk_show_where.proofs.acts.push_registrations.Given as goal

-- the clocks so far were added
abbrev pub invariant-loop-clock : goal.invariant-loop-clock
invariant-loop-clock l = l.out.items ≡ l.fn.out.items ++ each_below (registration l.condition l.core.world l.act) l.clock
