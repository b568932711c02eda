use Rattle.std.proofs.Common.{◌≡◌, [], drop}
use Rattle.xk_why.specs.Rest.{steps_from}
use Rattle.xk_why.proofs.rest.steps_of.Given as goal

-- those so far, and what the rest adds
abbrev pub invariant-loop-i : goal.invariant-loop-i
invariant-loop-i l = steps_from l.flows l.list.items (drop l.i-index l.slice) ≡ steps_from l.flows [] l.slice
