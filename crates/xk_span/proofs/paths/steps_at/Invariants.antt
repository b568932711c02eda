use Rattle.std.proofs.Common.{◌≡◌, take}
use Rattle.std.specs.List.{flat_map}
use Rattle.xk_span.specs.Steps.{step_at}
use Rattle.xk_span.proofs.paths.steps_at.Given as goal

abbrev pub invariant-loop-j : goal.invariant-loop-j
invariant-loop-j l = l.steps.items ≡ flat_map (step_at l.deeds) (take l.j-index l.path)
