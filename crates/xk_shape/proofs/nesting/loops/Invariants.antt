-- the loops found, and those of the instructions that are left
use Rattle.std.proofs.Common.{◌≡◌, ◌++◌, map, drop}
use Rattle.xk_types.specs.Code.{loops_from, loops}
use Rattle.xk_types.specs.Shape.{span_of}
use Rattle.xk_shape.proofs.nesting.loops.Given as goal

abbrev pub invariant-loop-at : goal.invariant-loop-at
invariant-loop-at l = l.found.items ++ map span_of (loops_from l.u l.at (drop l.at l.u.code)) ≡ map span_of (loops l.u)
