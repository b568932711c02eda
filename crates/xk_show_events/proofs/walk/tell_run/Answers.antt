use Rattle.std.proofs.Common.{◌≡◌, ◌∙◌, ◌<◌, length, drop, get_or, ap, arith}
use Rattle.xk_types.specs.World.{opening}
use Rattle.xk_types.specs.Logs.{schedule_of}
use Rattle.xk_show_events.proofs.StepLemmas.{all_told, entry_legal, entry_told}
use Rattle.xk_show_events.proofs.walk.tell_run.Goals as goal

pub push_entry-requires : goal.push_entry-requires
push_entry-requires g c =
    let e = c.args.legal.now in
    let m = e.module.now in
    let log = e.log.now in
    let i = c.loop-entry.entry-index in
    let x = c.entry-item.result in
    let is : x ≡ get_or log i x = c.entry-item.is in
    let lt : i < length log = omega arith in
    entry_legal (g.T.Tell.tell c.args.teller.now m) m log (opening m e.core.now.world.arguments) e.core.now.world c.args.out.now.items i x
    c.loop-entry.core c.loop-entry.out.items lt is e.leads.1 c.loop-entry.invariant

pub loop-entry-preserved : goal.loop-entry-preserved
loop-entry-preserved g c =
    let e = c.args.legal.now in
    let m = e.module.now in
    let log = e.log.now in
    let i = c.loop-entry.entry-index in
    let x = c.entry-item.result in
    let old = c.loop-entry in
    let new = c.push_entry.new in
    let is : x ≡ get_or log i x = c.entry-item.is in
    let lt : i < length log = omega arith in
    entry_told (g.T.Tell.tell c.args.teller.now m) m log (opening m e.core.now.world.arguments) c.args.out.now.items i x
    old.core new.core old.out.items new.out.items lt is c.in_ok-push_entry.ensures.led c.push_entry.ensures.same_module
    (rw old.invariant.same_module at c.in_ok-push_entry.ensures.told) old.invariant

pub returns-then-is_silent_after : goal.returns-then-is_silent_after
returns-then-is_silent_after g c =
    let e = c.args.legal.now in
    let m = e.module.now in
    all_told (g.T.Tell.tell c.args.teller.now m) m (schedule_of e.log.now) (opening m e.core.now.world.arguments) e.core.now.world c.args.out.now.items
    (schedule_of (drop c.loop-entry.entry-index e.log.now)) c.steps_done.result c.loop-entry.core c.loop-entry.out.items
    c.steps_done.ensures.count e.leads.1 (c.is_silent_after.ensures c.if-is_silent_after.true m) c.loop-entry.invariant
