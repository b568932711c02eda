use Rattle.std.proofs.Common.{◌≡◌, ◌∙◌, get_or, subst, arith}
use Rattle.xk_types.specs.declared.world.Entry.{Entry}
use Rattle.xk_replay.specs.Replay.{GoesOn, IsHeld, IsStoppedAt}
use Rattle.xk_replay.proofs.ReplayLemmas.{entry_more, entry_held, was_held, was_taken}
use Rattle.xk_replay.proofs.log_replay.carry_out.Goals as goal

pub loop-i-preserved : goal.loop-i-preserved
loop-i-preserved c =
    let log = c.args.log.now in
    let x = c.index-log-i.result in
    let d = c.loop-i.core in
    let v = c.repeat.new.core in
    let old = c.loop-i.printed.items in
    let new = c.repeat.new.printed.items in
    let is : x ≡ get_or log c.loop-i.i x = c.index-log-i.is in
    let r = entry_more c.args.verified.now log c.loop-i.i x old new d v (omega arith) c.loop-i.invariant.0
    (subst (λ (z : Entry). GoesOn d old z.act z.steps v new) is
    (was_taken d v old new x c.in_ok-repeat.field-0 c.if-not-branch.false c.in_ok-repeat.ensures.repeated))
    c.repeat.ensures.same_module in
    (r.0, r.1 ∙ c.loop-i.invariant.1)

pub returns-then-not-branch-clause-stopped : goal.returns-then-not-branch-clause-stopped
returns-then-not-branch-clause-stopped c =
    let log = c.args.log.now in
    let x = c.index-log-i.result in
    let d = c.loop-i.core in
    let v = c.repeat.new.core in
    let old = c.loop-i.printed.items in
    let new = c.repeat.new.printed.items in
    let is : x ≡ get_or log c.loop-i.i x = c.index-log-i.is in
    subst (λ xs. IsStoppedAt c.args.verified.now xs log c.loop-i.i) c.loop-i.invariant.1
    (entry_held c.args.verified.now log c.loop-i.i x old new d v (omega arith) c.loop-i.invariant.0
    (subst (λ (z : Entry). IsHeld d old z v new) is (was_held d v old new x c.in_ok-repeat.field-0 c.if-not-branch.true c.in_ok-repeat.ensures.repeated))
    c.repeat.ensures.same_module)
