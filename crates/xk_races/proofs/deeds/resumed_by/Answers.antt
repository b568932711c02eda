-- Where none has to be asked about, no clock is.
use Rattle.std.proofs.Common.{sym}
use Rattle.xk_races.proofs.ClockStepLemmas.{none_resumed}
use Rattle.xk_races.proofs.deeds.resumed_by.Goals as goal

pub returns-then-not-may_leave : goal.returns-then-not-may_leave
returns-then-not-may_leave c =
    none_resumed c.args.core.now.module_run c.args.core.now.world c.args.act _ c.new-list.result.items c.requires
    (sym c.if-not-may_leave.ensures)
