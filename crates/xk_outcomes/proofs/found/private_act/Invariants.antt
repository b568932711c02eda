use Rattle.std.proofs.Common.{◌≡◌, None}
use Rattle.xk_outcomes.specs.PrivateSteps.{has_private_step}
use Rattle.xk_outcomes.specs.Found.{least}
use Rattle.xk_outcomes.proofs.found.private_act.Given as goal

-- none of those before has one
abbrev pub invariant-loop-a : goal.invariant-loop-a
invariant-loop-a l = least (has_private_step l.core.module_run l.core.world) l.a ≡ None
