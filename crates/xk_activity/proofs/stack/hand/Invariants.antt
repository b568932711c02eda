use Rattle.std.proofs.Common.{◌≡◌, drop, take}
use Rattle.xk_activity.specs.Slots.{values_of, AreLaid}
use Rattle.xk_activity.specs.FrameStack.{values_at}
use Rattle.xk_activity.proofs.stack.hand.Given as goal

-- the values of the slots passed were put on
abbrev pub invariant-loop-i : goal.invariant-loop-i
invariant-loop-i l =
    AreLaid l.initial.stack.items l.stack.items l.handed (values_at (values_of l.fn.marks (drop l.fn.base l.initial.stack.items)) (take l.i l.args))
    × (l.stack.capacity ≡ l.initial.stack.capacity)
