use Rattle.std.proofs.Common.{subst, sym, ap, ◌∙◌, refl, Some}
use Rattle.xk_types.specs.Code.{IsWithinLimits}
use Rattle.xk_types.specs.declared.instr.Instr.TheVariants as instr
use Rattle.xk_activity.specs.Local.{FramesValue, Stepped}
use Rattle.xk_activity.specs.FrameStack.{Does}
use Rattle.xk_activity.proofs.LocalStepLemmas.{reads, call_there, local_is, others}
use Rattle.xk_activity.proofs.frames.Frames.across.Goals as goal

pub call-requires : goal.call-requires
call-requires c =
    let e = reads c.args.self.now _ _ _ c.requires.right c.code-code.ensures.code (ap (λ (f : FramesValue). f.frame.place) c.self.view_is) c.index-code-self.is in
    (call_there c.args.self.now c.in-Call.unit c.slots.result.now (subst (λ (f : FramesValue). IsWithinLimits f.module_run) c.self.view_is c.self.invariant.limits)
    (e ∙ ap Some (c.in-Call.is ∙ ap (instr.Call c.in-Call.unit) (sym c.slots.ensures))) c.requires.right).0

pub returns-in-Call-clause-does : goal.returns-in-Call-clause-does
returns-in-Call-clause-does c =
    let e = reads c.args.self.now _ _ _ c.requires.right c.code-code.ensures.code (ap (λ (f : FramesValue). f.frame.place) c.self.view_is) c.index-code-self.is in
    (call_there c.args.self.now c.in-Call.unit c.slots.result.now (subst (λ (f : FramesValue). IsWithinLimits f.module_run) c.self.view_is c.self.invariant.limits)
    (e ∙ ap Some (c.in-Call.is ∙ ap (instr.Call c.in-Call.unit) (sym c.slots.ensures))) c.requires.right).1
    ∙ ap Stepped (sym c.call.ensures)

pub returns-in-Ret-clause-does : goal.returns-in-Ret-clause-does
returns-in-Ret-clause-does c =
    let e = reads c.args.self.now _ _ _ c.requires.right c.code-code.ensures.code (ap (λ (f : FramesValue). f.frame.place) c.self.view_is) c.index-code-self.is in
    subst (λ o. Does o c.args.self.now c.leave.result c.leave.new.self) (sym (local_is c.args.self.now instr.Ret (e ∙ ap Some c.in-Ret.is))) c.leave.ensures.does

pub returns-in_default-clause-does : goal.returns-in_default-clause-does
returns-in_default-clause-does c =
    let e = reads c.args.self.now _ _ _ c.requires.right c.code-code.ensures.code (ap (λ (f : FramesValue). f.frame.place) c.self.view_is) c.index-code-self.is in
    (others c.args.self.now _ e c.requires.beyond c.in_default.not-Call c.in_default.not-Ret, refl)
