use Rattle.std.proofs.Common.{◌<◌, sym, length, subst}
use Rattle.xk_activity.specs.Local.{FramesValue}
use Rattle.xk_activity.proofs.FrameStackLemmas.{set_gives, top_few}
use Rattle.xk_activity.proofs.frames.Frames.set.Goals as goal

pub set_on_top-requires-clause-slot : goal.set_on_top-requires-clause-slot
set_on_top-requires-clause-slot c = subst (λ (f : FramesValue). c.args.s < length f.frame.slots) (sym c.self.view_is) c.requires

pub set_on_top-requires-clause-few : goal.set_on_top-requires-clause-few
set_on_top-requires-clause-few c = top_few _ _ _ _ _ _ _ c.self.invariant

pub returns : goal.returns
returns c =
    set_gives _ _ _ c.self.inside.unit c.self.inside.place c.self.inside.marks c.self.inside.base c.set_on_top.new.marks c.args.s c.args.v c.self.inside.stack.items
    c.set_on_top.new.stack.items _ c.args.self.now c.self.view_is c.self.invariant.stacked c.set_on_top.ensures.below c.set_on_top.ensures.written
