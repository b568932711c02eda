use Rattle.std.proofs.Common.{drop}
use Rattle.xk_types.specs.World.{opening}
use Rattle.xk_types.specs.Logs.{schedule_of}
use Rattle.xk_show_events.specs.Steps.{tell_by}
use Rattle.xk_show_events.proofs.StepLemmas.{IsLeft}
use Rattle.xk_show_events.proofs.pairs.describe_run_by_both.Given as goal

-- of the run's steps those are left, to be told by each, whose entries weren't come to
abbrev pub invariant-loop-entry : goal.invariant-loop-entry
invariant-loop-entry g l =
    let m = l.legal.module.now in
    let log = l.legal.log.now in
    let w = opening m l.legal.core.now.world.arguments in
    let left = schedule_of (drop l.entry-index log) in
    IsLeft (tell_by (g.A.Describe.describe l.fn.both.first.now m)) m (schedule_of log) w l.fn.firsts.items left l.core l.firsts.items
    × IsLeft (tell_by (g.B.Describe.describe l.fn.both.second.now m)) m (schedule_of log) w l.fn.seconds.items left l.core l.seconds.items
