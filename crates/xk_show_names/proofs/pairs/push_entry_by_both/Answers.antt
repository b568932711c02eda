use Rattle.std.proofs.Common.{◌-◌, ◌+◌, replicate, arith}
use Rattle.xk_show_names.specs.Accounts.{recounted_by}
use Rattle.xk_show_events.proofs.StepLemmas.{can_step, step_told}
use Rattle.xk_show_names.proofs.pairs.push_entry_by_both.Goals as goal

pub push_step_by_both-requires : goal.push_step_by_both-requires
push_step_by_both-requires g c =
    let m = c.args.core.now.module_run in
    let w = c.args.core.now.world in
    let a = c.args.entry.act in
    let n = c.args.entry.steps in
    let tell = recounted_by m (g.A.Recount.recount c.args.both.now.first.now m) in
    can_step tell m (replicate n a) w c.requires.0 c.args.firsts.now.items a (n - c.loop-done._done)
    c.loop-done.core c.loop-done.firsts.items (omega arith) c.requires.1 c.loop-done.invariant.0

pub loop-done-preserved : goal.loop-done-preserved
loop-done-preserved g c =
    let m = c.args.core.now.module_run in
    let w = c.args.core.now.world in
    let a = c.args.entry.act in
    let n = c.args.entry.steps in
    let all = replicate n a in
    let done = c.loop-done._done in
    let old = c.loop-done in
    let new = c.push_step_by_both.new in
    let e = c.in_ok-push_step_by_both.field-0 in
    let taken = c.in_ok-push_step_by_both.ensures in
    let same = c.push_step_by_both.ensures.same_module in
    let tell = recounted_by m (g.A.Recount.recount c.args.both.now.first.now m) in
    let tell2 = recounted_by m (g.B.Recount.recount c.args.both.now.second.now m) in (
      step_told tell m all w c.args.firsts.now.items a (n - done) (n - (done + 1)) old.core new.core e
          old.firsts.items new.firsts.items (omega arith) taken.stepped same
          (rw old.invariant.0.same_module at taken.first) old.invariant.0,
      step_told tell2 m all w c.args.seconds.now.items a (n - done) (n - (done + 1)) old.core new.core e
          old.seconds.items new.seconds.items (omega arith) taken.stepped same
          (rw old.invariant.1.same_module at taken.second) old.invariant.1,
    )
