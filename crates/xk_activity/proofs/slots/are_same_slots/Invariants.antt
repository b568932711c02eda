use Rattle.std.proofs.Common.{◌≡◌, take}
use Rattle.xk_activity.specs.Slots.{values_of}
use Rattle.xk_activity.proofs.slots.are_same_slots.Given as goal

-- they are the same so far
abbrev pub invariant-loop-i : goal.invariant-loop-i
invariant-loop-i l = take l.i (values_of l.p l.a) ≡ take l.i (values_of l.q l.b)
