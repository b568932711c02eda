use Rattle.std.proofs.Common.{sym}
use Rattle.xk_scheduler.proofs.TurnLemmas.{run_starts}
use Rattle.xk_scheduler.proofs.whole_run.unstarted.Goals as goal

pub invariant_of-result : goal.invariant_of-result
invariant_of-result c = rw (c.new.ensures.items, c.new-2.ensures.items)
    (record { run = run_starts c.module.result.now c.args.core (sym c.module.ensures.same) c.module.ensures.taken (c.module.ensures.opening c.requires) })
