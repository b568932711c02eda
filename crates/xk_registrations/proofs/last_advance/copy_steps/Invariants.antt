use Rattle.std.proofs.Common.{◌≡◌, take}
use Rattle.std.specs.Vec.{vec_capacity}
use Rattle.xk_registrations.proofs.last_advance.copy_steps.Given as goal

-- those passed were copied
abbrev pub invariant-loop-step : goal.invariant-loop-step
invariant-loop-step l = (l.copy.items ≡ take l.step-index l.steps.items) × (vec_capacity l.copy ≡ vec_capacity l.steps)
