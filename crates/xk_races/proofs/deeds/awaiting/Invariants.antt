use Rattle.std.proofs.Common.{◌≡◌}
use Rattle.xk_show_events.specs.Worlds.{those_below}
use Rattle.xk_races.specs.Deeds.{awaits}
use Rattle.xk_races.proofs.deeds.awaiting.Given as goal

-- those of the clocks so far that await it
abbrev pub invariant-loop-clock : goal.invariant-loop-clock
invariant-loop-clock l = l.list.items ≡ those_below (awaits l.core.world l.act) l.clock
