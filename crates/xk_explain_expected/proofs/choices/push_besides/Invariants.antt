use Rattle.std.proofs.Common.{◌≡◌, ◌++◌, drop}
use Rattle.xk_explain_expected.specs.Expected.{besides}
use Rattle.xk_explain_expected.proofs.choices.push_besides.Given as goal

abbrev pub invariant-loop-t : goal.invariant-loop-t
invariant-loop-t l = l.found.items ++ besides l.stack l.group (drop l.t-index l.told) ≡ l.fn.found.items ++ besides l.stack l.group l.told
