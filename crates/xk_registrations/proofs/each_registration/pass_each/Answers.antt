use Rattle.std.proofs.Common.{◌≡◌, ◌<◌, ◌≤◌, List, [], length, drop, arith}
use Rattle.std.proofs.lemmas.List.{at_drop_all}
use Rattle.xk_registrations.specs.View.{Registration}
use Rattle.xk_registrations.proofs.CallSequenceLemmas.{more_passed, all_passed}
use Rattle.xk_registrations.proofs.each_registration.pass_each.Goals as goal

pub loop-i-preserved : goal.loop-i-preserved
loop-i-preserved c =
    let inside : c.loop-i.i < length c.loop-i.registrations = omega (arith, c.loop-i-test.true, c.loop-i.auto.registrations) in
    rw c.passed.ensures
    (more_passed c.loop-i.i c.loop-i.registrations _ c.index-registrations-i.result inside c.index-registrations-i.is c.loop-i.invariant)

pub returns : goal.returns
returns c =
    let past : length c.loop-i.registrations ≤ c.loop-i.i = omega (arith, c.loop-i-test.false, c.loop-i.auto.registrations) in
    let none : drop c.loop-i.i c.loop-i.registrations ≡ [] = at_drop_all (λ (l : List Registration). l) c.loop-i.registrations c.loop-i.i past in
    all_passed c.loop-i.i c.loop-i.registrations _ none c.loop-i.invariant
