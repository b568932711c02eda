use Rattle.std.proofs.Common.{◌≡◌, ◌++◌, take}
use Rattle.std.specs.List.{flat_map}
use Rattle.xk_why.specs.Finishes.{ending}
use Rattle.xk_why.proofs.finishes.push_ending.Given as goal

-- those so far were added
abbrev pub invariant-loop-finish : goal.invariant-loop-finish
invariant-loop-finish l = l.list.items ≡ l.fn.list.items ++ flat_map (ending l.step) (take l.finish-index l.nest)
