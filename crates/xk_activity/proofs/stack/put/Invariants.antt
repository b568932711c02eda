use Rattle.std.proofs.Common.{◌≡◌, take}
use Rattle.xk_activity.specs.Slots.{AreLaid}
use Rattle.xk_activity.proofs.stack.put.Given as goal

-- the values passed were put on
abbrev pub invariant-loop-i : goal.invariant-loop-i
invariant-loop-i l = AreLaid l.initial.stack.items l.stack.items l.marks (take l.i l.values) × (l.stack.capacity ≡ l.initial.stack.capacity)
