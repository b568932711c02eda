use Rattle.xk_activity.proofs.FrameStackLemmas.{up_gives}
use Rattle.xk_activity.proofs.frames.Frames.up.Goals as goal

pub returns : goal.returns
returns c =
    up_gives _ _ _ c.self.inside.unit c.self.inside.place c.self.inside.marks c.self.inside.base c.self.inside.stack.items c.truncate.new.self.items
    c.self.inside.callers.items c.pop.new.self.items c.in-Some.caller c.args.self.now c.self.view_is c.self.invariant.stacked
    c.in-Some.ensures.items c.truncate.ensures.items
