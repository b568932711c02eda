use Rattle.xk_show_where.proofs.HolderLaw.{awaits_somebody, held_by_somebody}
use Rattle.xk_show_where.proofs.WaitingLaw.{told_for_clocks, told_in_finish}
use Rattle.xk_show_where.proofs.laws.who_waits_is_held.Goals as goal

pub returns-clause-clocks : goal.returns-clause-clocks
returns-clause-clocks c a h = told_for_clocks c.args.core.now.module_run c.args.core.now.world a c.activities-there.ensures.core h

pub returns-clause-finish : goal.returns-clause-finish
returns-clause-finish c a h = told_in_finish c.args.core.now.module_run c.args.core.now.world a c.activities-there.ensures.core h

pub returns-clause-held : goal.returns-clause-held
returns-clause-held c a k h =
    held_by_somebody c.args.core.now.module_run c.args.core.now.world a k c.activities-there.ensures.core h

pub returns-clause-awaited : goal.returns-clause-awaited
returns-clause-awaited c a h = awaits_somebody c.args.core.now.module_run c.args.core.now.world a c.activities-there.ensures.core h
