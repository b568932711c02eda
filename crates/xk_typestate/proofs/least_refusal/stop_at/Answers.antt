-- slot after slot
use Rattle.std.proofs.Common.{ap, arith}
use Rattle.xk_types.specs.Code.{UnitValue}
use Rattle.xk_typestate.proofs.ResultLemmas.{none_left}
use Rattle.xk_typestate.proofs.LeastStopLemmas.{unrefused_more, first_there}
use Rattle.xk_typestate.proofs.least_refusal.stop_at.Goals as goal

pub loop-slot-preserved : goal.loop-slot-preserved
loop-slot-preserved c =
    let slots = ap (λ (x : UnitValue). x.slots) c.u.view_is in
    unrefused_more c.args.m.now c.args.u.now c.args.table.now c.requires.table c.args.at c.loop-slot.slot c.kinds.result c.kinds.ensures (omega arith)
    (none_left _ _ _ c.in_default.not-Some c.stop_of.ensures) c.loop-slot.invariant

pub returns-in-Some : goal.returns-in-Some
returns-in-Some c =
    let slots = ap (λ (x : UnitValue). x.slots) c.u.view_is in
    first_there c.args.m.now c.args.u.now c.args.table.now c.requires.table c.args.at c.loop-slot.slot c.kinds.result c.kinds.ensures (omega arith) c.in-Some.stop
    c.loop-slot.invariant c.in-Some.ensures

pub returns : goal.returns
returns c = λ s q r here h.
    let slots = ap (λ (x : UnitValue). x.slots) c.u.view_is in
    c.loop-slot.invariant s q r (let lt = h.slot in omega arith) here h
