-- the slots so far have their kinds
use Rattle.std.proofs.Common.{◌≡◌, ℕ, ◌<◌, [], length, get_or}
use Rattle.xk_typestate.specs.KindTable.{AreSlotKinds}
use Rattle.xk_typestate.proofs.kind_table.KindTable.follow.Given as goal

abbrev pub invariant-loop-slot : goal.invariant-loop-slot
invariant-loop-slot l = record {
  long : length l.slots.items ≡ l.slot;
  each : (s : ℕ) → s < l.slot → AreSlotKinds l.m l.u s (get_or l.slots.items s []);
}
