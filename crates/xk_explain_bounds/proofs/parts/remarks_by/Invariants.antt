-- what was added, and what the units that are left add
use Rattle.std.proofs.Common.{◌≡◌, ◌++◌, drop}
use Rattle.xk_explain_bounds.specs.Parts.{remarks_from}
use Rattle.xk_explain_bounds.proofs.parts.remarks_by.Given as goal

abbrev pub invariant-loop-unit : goal.invariant-loop-unit
invariant-loop-unit l =
    l.out.items ++ remarks_from l.subject l.m l.unit (drop l.unit l.m.units) ≡ remarks_from l.subject l.m 0 l.m.units
