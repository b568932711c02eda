use Rattle.std.proofs.Common.{◌≡◌, ◌++◌, take}
use Rattle.std.specs.List.{flat_map}
use Rattle.xk_explain.specs.Explanations.{visit_line, walk_head}
use Rattle.xk_explain.proofs.refusals.push_walk.Given as goal

-- the lines of the stops so far were added
abbrev pub invariant-loop-visit : goal.invariant-loop-visit
invariant-loop-visit l = l.out.items ≡ (l.fn.out.items ++ walk_head l.fn.slot) ++ flat_map visit_line (take l.visit-index l.walk)
