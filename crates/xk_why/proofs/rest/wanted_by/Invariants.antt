use Rattle.std.proofs.Common.{◌≡◌, drop}
use Rattle.xk_why.specs.Rest.{wanted_by, wanted_from}
use Rattle.xk_why.proofs.rest.wanted_by.Given as goal

-- those so far, and what the rest adds
abbrev pub invariant-loop-flow : goal.invariant-loop-flow
invariant-loop-flow l = wanted_from l.n l.wanted.items (drop l.flow-index l.flows) ≡ wanted_by l.n l.flows
