-- what was added, and what the instructions that are left add
use Rattle.std.proofs.Common.{◌≡◌, ◌++◌, drop}
use Rattle.xk_types.specs.Code.{begun_from}
use Rattle.xk_explain_bounds.specs.Parts.{part_at}
use Rattle.xk_explain_bounds.proofs.parts.push_parts.Given as goal

abbrev pub invariant-loop-at : goal.invariant-loop-at
invariant-loop-at l =
    l.out.items ++ begun_from (part_at l.subject l.unit l.u) l.at (drop l.at l.u.code)
    ≡ l.fn.out.items ++ begun_from (part_at l.subject l.unit l.u) 0 l.u.code
