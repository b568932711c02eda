use Rattle.xk_core.proofs.CoreLemmas.{core_fresh}
use Rattle.xk_scheduler.proofs.driver.Driver.new.Goals as goal

pub returns-clause-opening : goal.returns-clause-opening
returns-clause-opening c = core_fresh c.args.start.module_run c.args.start.world c.in-Ok.ensures.core

pub returns-clause-taken : goal.returns-clause-taken
returns-clause-taken c = c.in-Ok.ensures.core.reached.1.0
