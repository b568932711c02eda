use Rattle.std.proofs.Common.{◌+◌, ◌-◌}
use Rattle.xk_types.specs.Bound.{steps_bound}
use Rattle.xk_ask.proofs.TurnLemmas.{IsTurning}
use Rattle.xk_ask.proofs.turn.take_turn.Given as goal

-- some steps of the turn were taken, and it goes on
abbrev pub invariant-loop : goal.invariant-loop
invariant-loop l = IsTurning l.fn.act l.fn.game.driver l.fn.game.log.items l.game.driver l.game.log.items

-- steps left
abbrev pub decreases-loop : goal.decreases-loop
decreases-loop l = steps_bound l.game.driver.module_run + 1 - l.game.driver.world.steps
