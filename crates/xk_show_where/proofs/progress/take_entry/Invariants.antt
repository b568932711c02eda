use Rattle.std.proofs.Common.{◌≡◌, ◌+◌, replicate}
use Rattle.xk_types.specs.Schedule.{Through, run}
use Rattle.xk_show_where.proofs.progress.take_entry.Given as goal

-- so many steps were taken
abbrev pub invariant-loop-done : goal.invariant-loop-done
invariant-loop-done l =
    (run l.fn.core.module_run (replicate l.done l.fn.entry.act) l.fn.core.world ≡ Through l.core.world)
    × (l.core.world.steps ≡ l.fn.core.world.steps + l.done)
    × (l.core.module_run ≡ l.fn.core.module_run)
