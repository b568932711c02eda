use Rattle.std.proofs.Common.{◌-◌, replicate}
use Rattle.xk_show_events.proofs.StepLemmas.{IsLeft}
use Rattle.xk_show_events.proofs.walk.push_entry.Given as goal

-- of the entry's steps those are left that weren't taken
abbrev pub invariant-loop-done : goal.invariant-loop-done
invariant-loop-done g l =
    IsLeft (g.T.Tell.tell l.fn.teller l.fn.core.module_run) l.fn.core.module_run (replicate l.fn.entry.steps l.fn.entry.act) l.fn.core.world l.fn.out.items
    (replicate (l.fn.entry.steps - l._done) l.fn.entry.act) l.core l.out.items
