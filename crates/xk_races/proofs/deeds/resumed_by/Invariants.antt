use Rattle.std.proofs.Common.{◌≡◌}
use Rattle.xk_show_events.specs.Worlds.{those_below}
use Rattle.xk_races.specs.Deeds.{has_resumed}
use Rattle.xk_races.proofs.deeds.resumed_by.Given as goal

-- those of the clocks so far that it has resumed
abbrev pub invariant-loop-clock : goal.invariant-loop-clock
invariant-loop-clock l = l.list.items ≡ those_below (has_resumed l.core.world l.act) l.clock
