use Rattle.xk_show_path.proofs.MarkLemmas.{marks_more}
use Rattle.xk_show_path.proofs.marks.marks_of.Goals as goal

pub loop-step-preserved : goal.loop-step-preserved
loop-step-preserved c =
    rw c.in_ok-add_one.ensures
    (marks_more c.args.path.now c.loop-step.step-index _ c.loop-step.marks.items c.loop-step-test.true c.loop-step.invariant)
