use Rattle.std.proofs.Common.{◌≡◌, ◌∙◌, ◌<◌, length, drop, get_or, ap, arith}
use Rattle.xk_types.specs.World.{opening}
use Rattle.xk_types.specs.Logs.{schedule_of}
use Rattle.xk_show_names.specs.Accounts.{recounted_by}
use Rattle.xk_show_events.proofs.StepLemmas.{all_told, entry_legal, entry_told}
use Rattle.xk_show_names.proofs.pairs.recount_run_by_both.Goals as goal

pub push_entry_by_both-requires : goal.push_entry_by_both-requires
push_entry_by_both-requires g c =
    let e = c.args.legal.now in
    let m = e.module.now in
    let log = e.log.now in
    let w = opening m e.core.now.world.arguments in
    let i = c.loop-entry.entry-index in
    let x = c.entry-item.result in
    let is : x ≡ get_or log i x = c.entry-item.is in
    let lt : i < length log = omega arith in
    let tell = recounted_by m (g.A.Recount.recount c.args.both.now.first.now m) in
    entry_legal tell m log w e.core.now.world c.args.firsts.now.items i x
    c.loop-entry.core c.loop-entry.firsts.items lt is e.leads.1 c.loop-entry.invariant.0

pub loop-entry-preserved : goal.loop-entry-preserved
loop-entry-preserved g c =
    let e = c.args.legal.now in
    let m = e.module.now in
    let log = e.log.now in
    let w = opening m e.core.now.world.arguments in
    let i = c.loop-entry.entry-index in
    let x = c.entry-item.result in
    let old = c.loop-entry in
    let new = c.push_entry_by_both.new in
    let taken = c.in_ok-push_entry_by_both.ensures in
    let same = c.push_entry_by_both.ensures.same_module in
    let is : x ≡ get_or log i x = c.entry-item.is in
    let lt : i < length log = omega arith in
    let tell = recounted_by m (g.A.Recount.recount c.args.both.now.first.now m) in
    let tell2 = recounted_by m (g.B.Recount.recount c.args.both.now.second.now m) in (
      entry_told tell m log w c.args.firsts.now.items i x old.core new.core old.firsts.items new.firsts.items
          lt is taken.led same (rw old.invariant.0.same_module at taken.first) old.invariant.0,
      entry_told tell2 m log w c.args.seconds.now.items i x old.core new.core old.seconds.items new.seconds.items
          lt is taken.led same (rw old.invariant.1.same_module at taken.second) old.invariant.1,
    )

pub returns-then-are_silent_after-clause-first : goal.returns-then-are_silent_after-clause-first
returns-then-are_silent_after-clause-first g c =
    let e = c.args.legal.now in
    let m = e.module.now in
    let all = schedule_of e.log.now in
    let tell = recounted_by m (g.A.Recount.recount c.args.both.now.first.now m) in
    all_told tell m all (opening m e.core.now.world.arguments) e.core.now.world c.args.firsts.now.items
    (schedule_of (drop c.loop-entry.entry-index e.log.now)) c.steps_done.result c.loop-entry.core
    c.loop-entry.firsts.items c.steps_done.ensures.count e.leads.1
    (c.are_silent_after.ensures.first c.if-are_silent_after.true m) c.loop-entry.invariant.0

pub returns-then-are_silent_after-clause-second : goal.returns-then-are_silent_after-clause-second
returns-then-are_silent_after-clause-second g c =
    let e = c.args.legal.now in
    let m = e.module.now in
    let all = schedule_of e.log.now in
    let tell = recounted_by m (g.B.Recount.recount c.args.both.now.second.now m) in
    all_told tell m all (opening m e.core.now.world.arguments) e.core.now.world c.args.seconds.now.items
    (schedule_of (drop c.loop-entry.entry-index e.log.now)) c.steps_done.result c.loop-entry.core
    c.loop-entry.seconds.items c.steps_done.ensures.count e.leads.1
    (c.are_silent_after.ensures.second c.if-are_silent_after.true m) c.loop-entry.invariant.1
