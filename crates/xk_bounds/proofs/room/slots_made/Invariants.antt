-- those among the slots so far, and no more than these
use Rattle.std.proofs.Common.{◌≡◌, ◌≤◌}
use Rattle.xk_types.specs.Bound.{count_below, is_made}
use Rattle.xk_bounds.proofs.room.slots_made.Given as goal

abbrev pub invariant-loop-slot : goal.invariant-loop-slot
invariant-loop-slot l = record {
  is : l.made ≡ count_below (is_made l.u) l.slot;
  few : l.made ≤ l.slot;
}
