-- the most among the rooms so far
use Rattle.std.proofs.Common.{◌≡◌}
use Rattle.xk_types.specs.Bound.{greatest_below}
use Rattle.xk_bounds.specs.Rooms.{slots_in}
use Rattle.xk_bounds.proofs.room.deepest.Given as goal

abbrev pub invariant-loop-room : goal.invariant-loop-room
invariant-loop-room l = l.most ≡ greatest_below (slots_in l.rooms) l.room-index
