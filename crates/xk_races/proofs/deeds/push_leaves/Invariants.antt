use Rattle.std.proofs.Common.{◌≡◌, ◌++◌, take}
use Rattle.std.specs.List.{flat_map}
use Rattle.xk_races.specs.Deeds.{leave}
use Rattle.xk_races.proofs.deeds.push_leaves.Given as goal

-- the deeds at the clocks so far were added
abbrev pub invariant-loop-clock : goal.invariant-loop-clock
invariant-loop-clock l = l.list.items ≡ l.fn.list.items ++ flat_map (leave l.core.world l.step) (take l.clock-index l.clocks)
