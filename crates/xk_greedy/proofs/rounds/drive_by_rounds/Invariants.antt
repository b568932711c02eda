use Rattle.std.proofs.Common.{◌+◌, ◌-◌}
use Rattle.xk_types.specs.Bound.{steps_bound}
use Rattle.xk_greedy.proofs.RoundLemmas.{IsSoFar}
use Rattle.xk_greedy.proofs.rounds.drive_by_rounds.Given as goal

-- the log stands for so many rounds
abbrev pub invariant-loop-alloc : goal.invariant-loop-alloc
invariant-loop-alloc l = IsSoFar l.fn.processors l.fn.start l.run.driver l.run.log.items l.rounds

-- steps left
abbrev pub decreases-loop-alloc : goal.decreases-loop-alloc
decreases-loop-alloc l = steps_bound l.fn.start.module_run + 1 - l.run.driver.world.steps
