use Rattle.std.specs.Prelude.{reverse}
use Rattle.xk_activity.proofs.FrameStackLemmas.{room_alone}
use Rattle.xk_activity.proofs.frames.Frames.copy_in.Goals as goal

pub returns-in_err-stack-clause-succeeds : goal.returns-in_err-stack-clause-succeeds
returns-in_err-stack-clause-succeeds c none few one =
    let r = room_alone _ c.self.inside.unit c.self.inside.place c.self.inside.marks c.self.inside.base _ c.self.inside.stack.items (reverse c.self.inside.callers.items) _ _ c.args.self.now
    c.self.invariant c.self.view_is none few one in
    let refused = c.in_err-stack.ensures.succeeds r.0 in cc

pub returns-in_err-callers-clause-succeeds : goal.returns-in_err-callers-clause-succeeds
returns-in_err-callers-clause-succeeds c none few one =
    let r = room_alone _ c.self.inside.unit c.self.inside.place c.self.inside.marks c.self.inside.base _ c.self.inside.stack.items (reverse c.self.inside.callers.items) _ _ c.args.self.now
    c.self.invariant c.self.view_is none few one in
    let refused = c.in_err-callers.ensures.succeeds r.1 in cc
