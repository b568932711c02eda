use Rattle.std.proofs.Common.{List, subst, sym, ap, ◌∙◌}
use Rattle.xk_types.specs.declared.instr.Instr.{Instr}
use Rattle.xk_activity.specs.Local.{FramesValue, Stepped, IsRight, local, turn, spot_at, spot_of}
use Rattle.xk_activity.specs.FrameStack.{Does}
use Rattle.xk_activity.proofs.FrameStackLemmas.{kept, top_ok}
use Rattle.xk_activity.proofs.LocalStepLemmas.{turn_steps}
use Rattle.xk_activity.proofs.frames.Frames.local.Goals as goal

pub across-requires-clause-right : goal.across-requires-clause-right
across-requires-clause-right c =
    subst (λ (f : FramesValue). IsRight (local f))
    (sym (kept _ _ _ c.self.inside.unit c.self.inside.place c.self.inside.marks c.self.inside.base c.step_top.new.marks c.self.inside.stack.items c.step_top.new.stack.items _ c.args.self.now c.self.view_is
    c.self.invariant.stacked c.in-None.ensures.below c.in-None.ensures.stepped.1)) c.requires

pub returns-in-Some-clause-does : goal.returns-in-Some-clause-does
returns-in-Some-clause-does c =
    turn_steps c.args.self.now (spot_at c.in-Some.place _) c.requires
    (ap (λ (is : List Instr). turn is (spot_of c.args.self.now.frame)) (sym c.code-code.ensures.code)
    ∙ ap (λ (f : FramesValue). turn c.code-code.result.now (spot_of f.frame)) (sym c.self.view_is) ∙ c.in-Some.ensures.stepped)
    ∙ ap Stepped (sym (top_ok _ _ _ c.self.inside.unit c.self.inside.place c.self.inside.marks c.self.inside.base c.in-Some.place c.step_top.new.marks c.self.inside.stack.items c.step_top.new.stack.items _ c.args.self.now
    c.self.view_is c.self.invariant.stacked c.in-Some.ensures.below))

pub returns-in-None-clause-does : goal.returns-in-None-clause-does
returns-in-None-clause-does c =
    subst (λ (f : FramesValue). Does (local f) f c.across.result c.across.new.self)
    (kept _ _ _ c.self.inside.unit c.self.inside.place c.self.inside.marks c.self.inside.base c.step_top.new.marks c.self.inside.stack.items c.step_top.new.stack.items _ c.args.self.now c.self.view_is
    c.self.invariant.stacked c.in-None.ensures.below c.in-None.ensures.stepped.1) c.across.ensures.does
