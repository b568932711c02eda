use Rattle.std.proofs.Common.{rules, sym, ap, ◌∙◌, Some}
use Rattle.xk_types.specs.declared.instr.Instr.TheVariants as instr
use Rattle.xk_activity.specs.Local.{is_stepped}
use Rattle.xk_activity.proofs.LocalStepLemmas.{call_steps, local_is}
use Rattle.xk_activity.proofs.FrameStackLemmas.{waits_ok}
use Rattle.xk_activity.proofs.frames.Frames.is_local.Goals as goal

pub returns-in-Call : goal.returns-in-Call
returns-in-Call c = sym (call_steps c.args.self.now c.in-Call.unit c.in-Call.args (c.next.ensures ∙ ap Some c.in-Call.is) c.requires)

pub returns-in-Ret : goal.returns-in-Ret
returns-in-Ret c =
    waits_ok _ c.self.inside.unit c.self.inside.place c.self.inside.marks c.self.inside.base c.self.inside.stack.items c.self.inside.callers.items c.args.self.now _ c.self.view_is
    (search (rules, c.self.inside.callers.ok))
    ∙ ap is_stepped (sym (local_is c.args.self.now instr.Ret (c.next.ensures ∙ ap Some c.in-Ret.is)))
