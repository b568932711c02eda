use Rattle.std.proofs.Common.{◌-◌, replicate}
use Rattle.xk_show_names.specs.Accounts.{recounted_by}
use Rattle.xk_show_events.proofs.StepLemmas.{IsLeft}
use Rattle.xk_show_names.proofs.pairs.push_entry_by_both.Given as goal

-- of the entry's steps those are left, to be told by each, that weren't taken
abbrev pub invariant-loop-done : goal.invariant-loop-done
invariant-loop-done g l =
    let m = l.fn.core.module_run in
    let left = replicate (l.fn.entry.steps - l._done) l.fn.entry.act in
    let all = replicate l.fn.entry.steps l.fn.entry.act in
    IsLeft (recounted_by m (g.A.Recount.recount l.fn.both.first.now m)) m all l.fn.core.world l.fn.firsts.items left l.core l.firsts.items
    × IsLeft (recounted_by m (g.B.Recount.recount l.fn.both.second.now m)) m all l.fn.core.world l.fn.seconds.items left l.core l.seconds.items
