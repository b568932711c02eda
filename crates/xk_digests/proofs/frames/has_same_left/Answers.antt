use Rattle.std.proofs.Common.{subst, sym}
use Rattle.xk_activity.specs.Local.{FramesValue}
use Rattle.xk_digests.specs.Likeness.{AreFew}
use Rattle.xk_digests.proofs.FrameLemmas.{all_few}
use Rattle.xk_digests.proofs.frames.has_same_left.Goals as goal

pub have_same_waiting-requires : goal.have_same_waiting-requires
have_same_waiting-requires c = subst (λ (fs : FramesValue). AreFew fs.callers) (sym c.frames-frames.ensures)
    (all_few c.args.core.now.module_run c.args.core.now.world c.args.act c.activities-activities.ensures.core c.requires.here).1
