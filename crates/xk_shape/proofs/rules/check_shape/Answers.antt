-- the first rule that is broken
use Rattle.std.proofs.Common.{arith}
use Rattle.xk_shape.proofs.BreachLemmas.{number_at, first_fault}
use Rattle.xk_shape.proofs.rules.check_shape.Goals as goal

pub returns-in-Some : goal.returns-in-Some
returns-in-Some c =
    let index = c.loop-rule.rule-index in
    first_fault c.args.m.now _ c.in-Some.fault c.in-Some.ensures (λ q lt. c.loop-rule.invariant q (omega (arith, number_at index c.loop-rule-test.true)))
