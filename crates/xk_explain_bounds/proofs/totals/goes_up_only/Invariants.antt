-- the units that are left decide
use Rattle.std.proofs.Common.{◌≡◌, drop}
use Rattle.xk_explain_bounds.specs.Amounts.{go_up_from, goes_up_only}
use Rattle.xk_explain_bounds.proofs.totals.goes_up_only.Given as goal

abbrev pub invariant-loop-unit : goal.invariant-loop-unit
invariant-loop-unit l = goes_up_only l.m ≡ go_up_from l.unit (drop l.unit l.m.units)
