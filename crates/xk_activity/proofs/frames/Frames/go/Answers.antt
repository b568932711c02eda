use Rattle.std.proofs.Common.{arith, ◌<◌, subst, sym}
use Rattle.xk_activity.specs.Local.{FramesValue}
use Rattle.xk_activity.proofs.FrameStackLemmas.{place_within}
use Rattle.xk_types.specs.Code.{IsWithinLimits}
use Rattle.xk_activity.proofs.frames.Frames.go.Goals as goal

pub overflow_add-self : goal.overflow_add-self
overflow_add-self c =
    let h : c.self.inside.place < 4096 = subst (λ (f : FramesValue). f.frame.place < 4096) (sym c.self.view_is)
    (place_within c.args.self.now.module_run c.args.self.now.frame c.requires.0 (subst (λ (f : FramesValue). IsWithinLimits f.module_run) c.self.view_is c.self.invariant.limits) c.requires.1) in
    omega arith
