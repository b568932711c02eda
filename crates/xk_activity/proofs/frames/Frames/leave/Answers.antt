use Rattle.xk_activity.proofs.FrameStackLemmas.{left_steps}
use Rattle.xk_activity.proofs.frames.Frames.leave.Goals as goal

pub returns-in-Some-clause-does : goal.returns-in-Some-clause-does
returns-in-Some-clause-does c =
    left_steps _ _ _ c.self.inside.unit c.self.inside.place c.self.inside.marks c.self.inside.base c.self.inside.stack.items c.truncate.new.self.items
    c.self.inside.callers.items c.pop.new.self.items c.in-Some.c c.args.self.now c.self.view_is c.self.invariant.stacked
    c.in-Some.ensures.items c.truncate.ensures.items
