use Rattle.std.proofs.Common.{◌≡◌, ◌++◌, take}
use Rattle.std.specs.List.{flat_map}
use Rattle.xk_why.specs.Waits.{deed_flows}
use Rattle.xk_why.proofs.waits.push_waits.Given as goal

-- those so far were added
abbrev pub invariant-loop-deed : goal.invariant-loop-deed
invariant-loop-deed l = l.list.items ≡ l.fn.list.items ++ flat_map (deed_flows l.core.world) (take l.deed-index l.deeds)
