use Rattle.std.proofs.Common.{◌-◌, ◌+◌, replicate, arith}
use Rattle.xk_show_events.proofs.StepLemmas.{can_step, step_told}
use Rattle.xk_show_events.proofs.walk.push_entry.Goals as goal

pub push_step-requires : goal.push_step-requires
push_step-requires g c =
    let m = c.args.core.now.module_run in
    let a = c.args.entry.act in
    let n = c.args.entry.steps in
    can_step (g.T.Tell.tell c.args.teller.now m) m (replicate n a) c.args.core.now.world c.requires.0 c.args.out.now.items a (n - c.loop-done._done)
    c.loop-done.core c.loop-done.out.items (omega arith) c.requires.1 c.loop-done.invariant

pub loop-done-preserved : goal.loop-done-preserved
loop-done-preserved g c =
    let m = c.args.core.now.module_run in
    let a = c.args.entry.act in
    let n = c.args.entry.steps in
    let done = c.loop-done._done in
    let tell = g.T.Tell.tell c.args.teller.now in
    let old = c.loop-done in
    let new = c.push_step.new in
    step_told (tell m) m (replicate n a) c.args.core.now.world c.args.out.now.items a (n - done) (n - (done + 1))
    old.core new.core c.in_ok-push_step.field-0 old.out.items new.out.items (omega arith) c.in_ok-push_step.ensures.stepped c.push_step.ensures.same_module
    (rw old.invariant.same_module at c.in_ok-push_step.ensures.told) old.invariant
