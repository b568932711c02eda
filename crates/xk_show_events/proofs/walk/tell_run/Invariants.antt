use Rattle.std.proofs.Common.{drop}
use Rattle.xk_types.specs.World.{opening}
use Rattle.xk_types.specs.Logs.{schedule_of}
use Rattle.xk_show_events.proofs.StepLemmas.{IsLeft}
use Rattle.xk_show_events.proofs.walk.tell_run.Given as goal

-- of the run's steps those are left whose entries weren't come to
abbrev pub invariant-loop-entry : goal.invariant-loop-entry
invariant-loop-entry g l =
    IsLeft (g.T.Tell.tell l.fn.teller l.legal.module.now) l.legal.module.now (schedule_of l.legal.log.now) (opening l.legal.module.now l.legal.core.now.world.arguments) l.fn.out.items
    (schedule_of (drop l.entry-index l.legal.log.now)) l.core l.out.items
