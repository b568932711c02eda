use Rattle.std.proofs.Common.{◌≡◌, ◌++◌, map, drop}
use Rattle.xk_answers.specs.Results.{lists_of}
use Rattle.xk_serve.proofs.values.lists_of.Given as goal

-- the lists so far and those of what is left are those of all
abbrev pub invariant-loop-outcome : goal.invariant-loop-outcome
invariant-loop-outcome l = map (λ x. x.now) l.lists.items ++ lists_of (drop l.outcome-index l.list) ≡ lists_of l.list
