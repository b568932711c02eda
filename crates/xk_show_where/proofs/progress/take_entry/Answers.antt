use Rattle.std.proofs.Common.{◌≡◌, ◌∙◌, subst, arith}
use Rattle.xk_types.specs.Step.{Stepped, step}
use Rattle.xk_show_where.proofs.ProgressLemmas.{one_more}
use Rattle.xk_show_where.proofs.progress.take_entry.Goals as goal

pub loop-done-preserved : goal.loop-done-preserved
loop-done-preserved c =
    let m = c.args.core.now.module_run in
    let a = c.args.entry.act in
    let w = c.loop-done.core.world in
    let v = c.step.new.self.world in
    let i = c.loop-done.invariant in
    let stepped : step m w a ≡ Stepped v c.in_ok-step.field-0 = subst (λ j. step j w a ≡ Stepped v c.in_ok-step.field-0) i.2 c.in_ok-step.ensures.stepped in (
      one_more m a c.loop-done.done c.args.core.now.world w v c.in_ok-step.field-0 i.0 stepped,
      (let n = c.in_ok-step.ensures.counted in let k = i.1 in omega arith),
      c.step.ensures.same_module ∙ i.2,
    )
