use Rattle.std.proofs.Common.{◌≡◌, ◌++◌, drop, filter}
use Rattle.xk_explain_expected.specs.Expected.{told_alone}
use Rattle.xk_explain_expected.specs.Missing.{is_missing}
use Rattle.xk_explain_expected.proofs.missing.missing.Given as goal

-- those found, and those of the tokens that are left
abbrev pub invariant-loop-t : goal.invariant-loop-t
invariant-loop-t l =
    l.found.items ++ filter (is_missing l.stack l.first l.second) (drop l.t-index told_alone) ≡ filter (is_missing l.stack l.first l.second) told_alone
