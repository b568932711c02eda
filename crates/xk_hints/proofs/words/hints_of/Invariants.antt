use Rattle.std.proofs.Common.{◌≡◌, ◌++◌, drop, map}
use Rattle.xk_hints.specs.Hints.{remarks_here}
use Rattle.xk_hints.specs.Words.{hint}
use Rattle.xk_hints.proofs.words.hints_of.Given as goal

abbrev pub invariant-loop-remark : goal.invariant-loop-remark
invariant-loop-remark l = l.out.items ++ map hint (remarks_here (drop l.remark-index l.remarks)) ≡ map hint (remarks_here l.remarks)
