-- instruction after instruction
use Rattle.std.proofs.Common.{◌≡◌, length, ap, arith}
use Rattle.xk_types.specs.Code.{UnitValue}
use Rattle.xk_typestate.proofs.ResultLemmas.{none_left}
use Rattle.xk_typestate.proofs.LeastStopLemmas.{before_more, first_of_unit, before_end}
use Rattle.xk_typestate.proofs.least_refusal.first_stop.Goals as goal

pub loop-at-init : goal.loop-at-init
loop-at-init c = λ s q r lt h. omega arith

pub loop-at-preserved : goal.loop-at-preserved
loop-at-preserved c = before_more c.args.m.now c.args.u.now c.loop-at.at c.loop-at.invariant (none_left _ _ _ c.in_default.not-Some c.stop_at.ensures)

pub returns-in-Some : goal.returns-in-Some
returns-in-Some c = first_of_unit c.args.m.now c.args.u.now c.loop-at.at c.in-Some.stop c.loop-at.invariant c.in-Some.ensures

pub returns : goal.returns
returns c =
    let same = ap (λ (x : UnitValue). x.code) c.u.view_is in
    let as_long : length c.u.inside.code.items ≡ length c.args.u.now.code = ap length same in
    before_end c.args.m.now c.args.u.now c.loop-at.at c.loop-at.invariant (omega (arith, c.u.inside.code.ok.0))
