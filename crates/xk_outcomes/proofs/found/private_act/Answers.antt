use Rattle.std.proofs.Common.{◌≡◌, ◌∙◌, ◌<◌, length, ap, arith, subst, sym}
use Rattle.xk_outcomes.specs.PrivateSteps.{has_private_step}
use Rattle.xk_outcomes.specs.Found.{least}
use Rattle.xk_outcomes.proofs.FoundLemmas.{least_found, least_more}
use Rattle.xk_outcomes.proofs.found.private_act.Goals as goal

pub returns-then-has_private_step : goal.returns-then-has_private_step
returns-then-has_private_step c =
    let core = c.args.core.now in
    sym (least_found (has_private_step core.module_run core.world) c.loop-a.a (length core.world.activities)
    (subst (λ n. c.loop-a.a < n) c.activities-a-end.ensures.count c.loop-a-test.true) c.loop-a.invariant (sym c.has_private_step.ensures ∙ c.if-has_private_step.true))

pub loop-a-preserved : goal.loop-a-preserved
loop-a-preserved c =
    let core = c.args.core.now in
    least_more (has_private_step core.module_run core.world) c.loop-a.a c.loop-a.invariant (sym c.has_private_step.ensures ∙ c.if-has_private_step.false)

pub returns : goal.returns
returns c =
    let core = c.args.core.now in
    let last : c.activities-a-end.result ≡ c.loop-a.a = omega (arith, c.loop-a-test.false, c.loop-a.auto.a-end) in
    sym (ap (least (has_private_step core.module_run core.world)) (sym c.activities-a-end.ensures.count ∙ last) ∙ c.loop-a.invariant)
