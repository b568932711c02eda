use Rattle.std.proofs.Common.{rules}
use Rattle.xk_activity.proofs.interpreter.end_turn.Goals as goal
use Rattle.xk_activity.proofs.interpreter.end_turn.Goals.{in-For, in-ForTo+then-n-hi, in-ForTo+else-n-hi}

pub returns-then-goes_on-clause-turned : goal.returns-then-goes_on-clause-turned
returns-then-goes_on-clause-turned c =
    elim c.match-head.branch [ in-For w ↦ search rules | in-ForTo+then-n-hi w ↦ search rules | in-ForTo+else-n-hi w ↦ search rules ]
