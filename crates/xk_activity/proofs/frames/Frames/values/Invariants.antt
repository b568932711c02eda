use Rattle.std.proofs.Common.{◌≡◌, take}
use Rattle.xk_activity.specs.FrameStack.{values_at}
use Rattle.xk_activity.proofs.frames.Frames.values.Given as goal

-- the values of the slots passed
abbrev pub invariant-loop-s : goal.invariant-loop-s
invariant-loop-s l = l.values.items ≡ values_at l.fn.self.frame.slots (take l.s-index l.args)
