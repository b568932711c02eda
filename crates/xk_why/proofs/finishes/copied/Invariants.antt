use Rattle.std.proofs.Common.{◌≡◌, take}
use Rattle.xk_why.proofs.finishes.copied.Given as goal

-- those so far
abbrev pub invariant-loop-finish : goal.invariant-loop-finish
invariant-loop-finish l = l.same.items ≡ take l.finish-index l.finishes
