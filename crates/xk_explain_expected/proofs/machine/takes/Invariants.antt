use Rattle.std.proofs.Common.{◌≡◌, drop}
use Rattle.xk_explain_expected.specs.Expected.{takes}
use Rattle.xk_explain_expected.proofs.machine.takes.Given as goal

-- what was skipped makes no difference
abbrev pub invariant-loop-symbol : goal.invariant-loop-symbol
invariant-loop-symbol l = takes (drop l.symbol-index l.stack) l.t ≡ takes l.stack l.t
