-- the loops found, and those of the instructions that are left
use Rattle.std.proofs.Common.{◌≡◌, ◌++◌, drop}
use Rattle.xk_types.specs.Code.{loops_from, loops}
use Rattle.xk_explain_bounds.proofs.visits.loops.Given as goal

abbrev pub invariant-loop-at : goal.invariant-loop-at
invariant-loop-at l = l.found.items ++ loops_from l.u l.at (drop l.at l.u.code) ≡ loops l.u
