-- the finishes found, and those of the instructions that are left
use Rattle.std.proofs.Common.{◌≡◌, ◌++◌, drop}
use Rattle.xk_types.specs.Code.{begun_from}
use Rattle.xk_types.specs.Blocks.{finish_opened, finishes}
use Rattle.xk_shape.proofs.nesting.finishes.Given as goal

abbrev pub invariant-loop-at : goal.invariant-loop-at
invariant-loop-at l = l.found.items ++ begun_from (finish_opened l.u) l.at (drop l.at l.u.code) ≡ finishes l.u
