use Rattle.std.proofs.Common.{take}
use Rattle.xk_greedy.specs.Steps.{AreEnabled, IsOn}
use Rattle.xk_greedy.proofs.rounds.step_each.Given as goal

-- those before this one have taken a step each, and the others still can
abbrev pub invariant-loop-act : goal.invariant-loop-act
invariant-loop-act l =
    IsOn l.initial.run.driver l.initial.run.log.items (take l.act-index l.acts) l.run.driver l.run.log.items
    × AreEnabled l.run.driver.module_run l.run.driver.world l.act-index l.acts
