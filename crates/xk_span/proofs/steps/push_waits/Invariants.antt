use Rattle.std.proofs.Common.{◌≡◌, ◌++◌, take}
use Rattle.std.specs.List.{flat_map}
use Rattle.xk_span.specs.Steps.{if_waits}
use Rattle.xk_span.proofs.steps.push_waits.Given as goal

-- those so far were added
abbrev pub invariant-loop-deed : goal.invariant-loop-deed
invariant-loop-deed l = l.list.items ≡ l.fn.list.items ++ flat_map if_waits (take l.deed-index l.deeds)
