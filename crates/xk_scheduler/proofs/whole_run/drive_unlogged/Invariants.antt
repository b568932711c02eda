use Rattle.std.proofs.Common.{◌≡◌, ◌+◌, ◌-◌}
use Rattle.xk_types.specs.Bound.{steps_bound}
use Rattle.xk_scheduler.proofs.UnloggedRunLemmas.{IsFront}
use Rattle.xk_scheduler.proofs.whole_run.drive_unlogged.Given as goal

-- the core stands where a list that follows the chooser leads, and what that printed was kept
abbrev pub invariant-loop-printed : goal.invariant-loop-printed
invariant-loop-printed g l = record {
  same_module : l.driver.module_run ≡ l.fn.start.module_run;
  run : IsFront g.C.Chooser.answer g.C.Chooser.after l.fn.start.module_run l.fn.start.world.arguments l.fn.chooser l.driver.world l.chooser l.printed.items;
}

-- steps left
abbrev pub decreases-loop-printed : goal.decreases-loop-printed
decreases-loop-printed g l = steps_bound l.fn.start.module_run + 1 - l.driver.world.steps
