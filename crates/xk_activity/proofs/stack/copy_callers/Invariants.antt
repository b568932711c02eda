use Rattle.std.proofs.Common.{◌≡◌, take}
use Rattle.std.specs.Vec.{vec_capacity}
use Rattle.xk_activity.proofs.stack.copy_callers.Given as goal

-- those passed were copied
abbrev pub invariant-loop-caller : goal.invariant-loop-caller
invariant-loop-caller l = (l.copy.items ≡ take l.caller-index l.callers.items) × (vec_capacity l.copy ≡ vec_capacity l.callers)
