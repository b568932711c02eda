-- the slots so far are known
use Rattle.std.proofs.Common.{◌≡◌, length}
use Rattle.xk_shape.specs.Tables.{AreFirstHomes}
use Rattle.xk_shape.proofs.tables.homes.Given as goal

abbrev pub invariant-loop-slot : goal.invariant-loop-slot
invariant-loop-slot l = (length l.found.items ≡ l.slot) × AreFirstHomes l.u l.found.items
