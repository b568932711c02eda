-- the rooms of the units from this one on, and no room is great
use Rattle.std.proofs.Common.{◌≡◌, ℕ, ◌<◌, ◌≤◌, length, slice_index_or}
use Rattle.xk_bounds.specs.Rooms.{nothing, IsSmall, IsRoom}
use Rattle.xk_bounds.proofs.room.rooms.Given as goal

abbrev pub invariant-loop-unit : goal.invariant-loop-unit
invariant-loop-unit l = record {
  long : length l.table.items ≡ length l.m.units;
  small : (t : ℕ) → IsSmall (slice_index_or l.table.items t nothing);
  each : (t : ℕ) → l.unit ≤ t → t < length l.m.units → IsRoom l.m t (slice_index_or l.table.items t nothing);
}
