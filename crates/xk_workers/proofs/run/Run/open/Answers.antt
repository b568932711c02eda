use Rattle.xk_core.proofs.CoreLemmas.{core_fresh}
use Rattle.xk_workers.proofs.RunLemmas.{fresh_is}
use Rattle.xk_workers.proofs.run.Run.open.Goals as goal

pub invariant_of-result : goal.invariant_of-result
invariant_of-result c = (
  core_fresh c.args.start.module_run c.args.start.world c.activities-everybody.ensures.core c.requires,
  fresh_is c.args.start c.activities-everybody.ensures.core c.requires,
)
