use Rattle.std.proofs.Common.{◌+◌, ◌-◌}
use Rattle.xk_types.specs.Bound.{steps_bound}
use Rattle.xk_scheduler.proofs.TurnLemmas.{IsGoing}
use Rattle.xk_scheduler.proofs.whole_run.drive.Given as goal

-- the log is that of a run which the chooser chose
abbrev pub invariant-loop-run : goal.invariant-loop-run
invariant-loop-run g l = IsGoing g.C.Chooser.answer g.C.Chooser.after l.fn.start.module_run l.fn.start.world.arguments l.fn.chooser l.run.log.items l.run.driver l.chooser

-- steps left
abbrev pub decreases-loop-run : goal.decreases-loop-run
decreases-loop-run g l = steps_bound l.run.driver.module_run + 1 - l.run.driver.world.steps
