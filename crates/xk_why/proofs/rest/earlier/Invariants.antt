use Rattle.std.proofs.Common.{◌≡◌, filter, nat_lt, take}
use Rattle.xk_why.proofs.rest.earlier.Given as goal

-- those so far
abbrev pub invariant-loop-flow : goal.invariant-loop-flow
invariant-loop-flow l = l.list.items ≡ filter (λ f. nat_lt f.step.number l.n) (take l.flow-index l.flows)
