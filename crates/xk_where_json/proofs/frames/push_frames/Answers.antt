use Rattle.std.proofs.Common.{sym, subst}
use Rattle.xk_activity.specs.Local.{FramesValue}
use Rattle.xk_show_locals.specs.Locals.{AreFew}
use Rattle.xk_show_locals.proofs.FrameLemmas.{few_frames}
use Rattle.xk_where_json.proofs.frames.push_frames.Goals as goal

pub push_all-requires-clause-few_outside : goal.push_all-requires-clause-few_outside
push_all-requires-clause-few_outside c =
    subst (λ (f : FramesValue). AreFew f.callers) (sym c.frames.ensures)
    (few_frames c.args.core.now.module_run c.args.core.now.world c.args.act c.activities-there.ensures.core c.requires).1
