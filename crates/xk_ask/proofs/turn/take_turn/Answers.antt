use Rattle.xk_law_schedules.proofs.ReachabilityLemmas.{run_arguments}
use Rattle.xk_ask.specs.Play.{turn}
use Rattle.xk_ask.proofs.TurnLemmas.{turning_on, turning_ends}
use Rattle.xk_ask.proofs.turn.take_turn.Goals as goal

pub loop-preserved : goal.loop-preserved
loop-preserved c =
    turning_on c.args.act c.args.game.now.driver c.loop.game.driver c.step_on.new.game.driver c.args.game.now.log.items c.loop.game.log.items
    c.step_on.new.game.log.items c.in_ok-step_on.field-0 c.if-branch.true c.loop.invariant c.in_ok-step_on.ensures.stepped c.in_ok-step_on.ensures.logged
    c.step_on.ensures.same_module c.in_ok-step_on.ensures.counted c.in_ok-step_on.ensures.bound

pub returns-clause-led : goal.returns-clause-led
returns-clause-led c =
    (turning_ends c.args.act c.args.game.now.driver c.loop.game.driver c.step_on.new.game.driver c.args.game.now.log.items c.loop.game.log.items
    c.step_on.new.game.log.items c.in_ok-step_on.field-0 c.if-branch.false c.loop.invariant c.in_ok-step_on.ensures.stepped c.in_ok-step_on.ensures.logged
    c.step_on.ensures.same_module c.in_ok-step_on.ensures.counted c.in_ok-step_on.ensures.bound).0

pub returns-clause-logged : goal.returns-clause-logged
returns-clause-logged c =
    (turning_ends c.args.act c.args.game.now.driver c.loop.game.driver c.step_on.new.game.driver c.args.game.now.log.items c.loop.game.log.items
    c.step_on.new.game.log.items c.in_ok-step_on.field-0 c.if-branch.false c.loop.invariant c.in_ok-step_on.ensures.stepped c.in_ok-step_on.ensures.logged
    c.step_on.ensures.same_module c.in_ok-step_on.ensures.counted c.in_ok-step_on.ensures.bound).1

pub returns-clause-arguments : goal.returns-clause-arguments
returns-clause-arguments c =
    run_arguments c.args.game.now.driver.module_run (turn c.args.game.now.driver.module_run c.args.act c.args.game.now.driver.world) c.args.game.now.driver.world
    c.step_on.new.game.driver.world
    (turning_ends c.args.act c.args.game.now.driver c.loop.game.driver c.step_on.new.game.driver c.args.game.now.log.items c.loop.game.log.items
    c.step_on.new.game.log.items c.in_ok-step_on.field-0 c.if-branch.false c.loop.invariant c.in_ok-step_on.ensures.stepped c.in_ok-step_on.ensures.logged
    c.step_on.ensures.same_module c.in_ok-step_on.ensures.counted c.in_ok-step_on.ensures.bound).0
