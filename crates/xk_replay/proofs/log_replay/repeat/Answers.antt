use Rattle.std.proofs.Common.{◌∙◌, ◌+◌, refl, sym, arith}
use Rattle.xk_replay.proofs.ReplayLemmas.{goes_none, goes_more, goes_unseen, goes_as}
use Rattle.xk_replay.proofs.log_replay.repeat.Goals as goal

pub loop-turn-init : goal.loop-turn-init
loop-turn-init c = (goes_none c.args.core.now c.args.printed.now.items c.args.entry.act, refl, omega arith, omega arith)

pub returns-then-done-entry-clause-repeated : goal.returns-then-done-entry-clause-repeated
returns-then-done-entry-clause-repeated c =
    goes_as c.args.core.now c.args.printed.now.items c.args.entry.act (c.loop-turn.done + c.run-unseen.result) c.args.entry.steps c.run-unseen.new.self
    c.loop-turn.printed.items c.if-done-entry.true
    (goes_unseen c.args.core.now c.loop-turn.core c.run-unseen.new.self c.args.printed.now.items c.loop-turn.printed.items c.args.entry.act
    c.loop-turn.done c.run-unseen.result c.loop-turn.invariant.0 c.run-unseen.ensures.ran c.run-unseen.ensures.unseen c.run-unseen.ensures.same_module)

pub returns-then-not-enabled-clause-repeated : goal.returns-then-not-enabled-clause-repeated
returns-then-not-enabled-clause-repeated c = record {
  done = c.loop-turn.done + c.run-unseen.result;
  left = (let a = c.run-unseen.ensures.most in let b = c.if-done-entry.false in let d = c.loop-turn.invariant.3 in omega arith);
  goes = goes_unseen c.args.core.now c.loop-turn.core c.run-unseen.new.self c.args.printed.now.items c.loop-turn.printed.items c.args.entry.act
      c.loop-turn.done c.run-unseen.result c.loop-turn.invariant.0 c.run-unseen.ensures.ran c.run-unseen.ensures.unseen c.run-unseen.ensures.same_module;
  blocked = sym c.enabled.ensures ∙ c.if-not-enabled.true;
}

pub loop-turn-preserved : goal.loop-turn-preserved
loop-turn-preserved c =
    let there = goes_unseen c.args.core.now c.loop-turn.core c.run-unseen.new.self c.args.printed.now.items c.loop-turn.printed.items c.args.entry.act
    c.loop-turn.done c.run-unseen.result c.loop-turn.invariant.0 c.run-unseen.ensures.ran c.run-unseen.ensures.unseen c.run-unseen.ensures.same_module in (
      rw c.in_ok-keep_printed.ensures (goes_more c.args.core.now c.run-unseen.new.self c.step.new.self c.args.printed.now.items c.loop-turn.printed.items
          c.args.entry.act (c.loop-turn.done + c.run-unseen.result) c.in_ok-event.event there c.in_ok-event.ensures.stepped c.step.ensures.same_module),
      c.step.ensures.same_module ∙ c.run-unseen.ensures.same_module ∙ c.loop-turn.invariant.1,
      (let a = c.loop-turn.invariant.2 in omega arith),
      (let a = c.run-unseen.ensures.most in let b = c.if-done-entry.false in let d = c.loop-turn.invariant.3 in omega arith),
    )
