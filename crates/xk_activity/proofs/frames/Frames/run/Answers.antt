use Rattle.std.proofs.Common.{◌+◌, ap, sym, ◌∙◌, arith}
use Rattle.xk_activity.specs.Local.{Stepped, local}
use Rattle.xk_activity.proofs.StepSequenceLemmas.{safe_here, safe_on, ran_more, ran_on}
use Rattle.xk_activity.proofs.frames.Frames.run.Goals as goal

pub run_frame-done-requires : goal.run_frame-done-requires
run_frame-done-requires c = safe_on local c.args.self.now c.loop-n.done c.loop-n.self c.requires c.loop-n.invariant.0

pub returns-then-done-max-clause-ran : goal.returns-then-done-max-clause-ran
returns-then-done-max-clause-ran c =
    ran_more local c.args.self.now c.loop-n.done c.run_frame-done.result c.loop-n.self c.loop-n.invariant.0 ∙ c.run_frame-done.ensures.ran

pub across-requires-clause-right : goal.across-requires-clause-right
across-requires-clause-right c =
    safe_here local c.args.self.now (c.loop-n.done + c.run_frame-done.result) c.run_frame-done.new.self c.requires
    (ran_more local c.args.self.now c.loop-n.done c.run_frame-done.result c.loop-n.self c.loop-n.invariant.0 ∙ c.run_frame-done.ensures.ran)

pub returns-in-Visible-clause-ran : goal.returns-in-Visible-clause-ran
returns-in-Visible-clause-ran c =
    ran_more local c.args.self.now c.loop-n.done c.run_frame-done.result c.loop-n.self c.loop-n.invariant.0 ∙ c.run_frame-done.ensures.ran
    ∙ ap Stepped (sym c.in-Visible.ensures.does.1)

pub loop-n-preserved : goal.loop-n-preserved
loop-n-preserved c =
    let there = ran_more local c.args.self.now c.loop-n.done c.run_frame-done.result c.loop-n.self c.loop-n.invariant.0 ∙ c.run_frame-done.ensures.ran in (
      ran_on local c.args.self.now (c.loop-n.done + c.run_frame-done.result) c.run_frame-done.new.self c.across.new.self there c.in-Stepped.ensures.does,
      c.across.ensures.same ∙ c.run_frame-done.ensures.same ∙ c.loop-n.invariant.1,
      (let a = c.loop-n.invariant.2 in omega arith),
      (let a = c.run_frame-done.ensures.most in let b = c.if-done-max.false in let d = c.loop-n.invariant.3 in omega arith),
    )
