use Rattle.std.proofs.Common.{◌≡◌, ◌-◌, ◌++◌, replicate, string_bytes}
use Rattle.xk_types.specs.Schedule.{run}
use Rattle.xk_replay.specs.Chart.{AreLiving, chart_lines}
use Rattle.xk_replay.proofs.clock_chart.put_entry.Given as goal

-- the steps that are left go as all of them did, their lines are those that are wanting, and the set has who lives
abbrev pub invariant-loop-done : goal.invariant-loop-done
invariant-loop-done l =
    (l.core.module_run ≡ l.fn.core.module_run)
    × (run l.fn.core.module_run (replicate (l.fn.entry.steps - l._done) l.fn.entry.act) l.core.world
    ≡ run l.fn.core.module_run (replicate l.fn.entry.steps l.fn.entry.act) l.fn.core.world)
    × (string_bytes l.text ++ chart_lines l.fn.core.module_run (replicate (l.fn.entry.steps - l._done) l.fn.entry.act) l.core.world
    ≡ string_bytes l.fn.text ++ chart_lines l.fn.core.module_run (replicate l.fn.entry.steps l.fn.entry.act) l.fn.core.world)
    × AreLiving l.core l.lists.living
