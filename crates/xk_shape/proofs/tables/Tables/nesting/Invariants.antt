use Rattle.std.proofs.Common.{◌≡◌}
use Rattle.xk_types.specs.Code.{UnitValue}
use Rattle.xk_types.specs.Blocks.{depth_at}
use Rattle.xk_types.specs.Bound.{greatest_below}
use Rattle.xk_shape.specs.Tables.{AreTables}
use Rattle.xk_shape.proofs.tables.Tables.nesting.Given as goal

-- the greatest of the places so far
abbrev pub invariant-loop-place : goal.invariant-loop-place
invariant-loop-place l = (u : UnitValue) → AreTables u l.self → l.most ≡ greatest_below (depth_at u) l.place-index
