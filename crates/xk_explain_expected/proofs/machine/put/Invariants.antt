use Rattle.std.proofs.Common.{◌≡◌, ◌++◌, length, reverse}
use Rattle.xk_explain_expected.proofs.machine.put.Given as goal

-- what is left of the row, on the stack as it is, is the whole row on the first one
abbrev pub invariant-loop-last : goal.invariant-loop-last
invariant-loop-last l = l.rest ++ reverse l.stack.items ≡ l.row ++ reverse l.fn.stack.items

abbrev pub decreases-loop-last : goal.decreases-loop-last
decreases-loop-last l = length l.rest
