use Rattle.std.proofs.Common.{◌≡◌, length, reverse}
use Rattle.xk_explain_expected.specs.Expected.{taken}
use Rattle.xk_explain_expected.proofs.machine.take.Given as goal

-- what was skipped makes no difference
abbrev pub invariant-loop-top : goal.invariant-loop-top
invariant-loop-top l = taken (reverse l.stack.items) l.t ≡ taken (reverse l.fn.stack.items) l.t

abbrev pub decreases-loop-top : goal.decreases-loop-top
decreases-loop-top l = length l.stack.items
