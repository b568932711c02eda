use Rattle.std.proofs.Common.{◌≡◌, ◌++◌, drop}
use Rattle.xk_why.specs.Finishes.{finish_flows, main_alone}
use Rattle.xk_why.proofs.finishes.push_finish_flows.Given as goal

-- those so far, and what the rest makes, are all
abbrev pub invariant-loop-step : goal.invariant-loop-step
invariant-loop-step l =
    l.list.items ++ finish_flows l.nests.items (drop l.step-index l.steps) ≡ l.fn.list.items ++ finish_flows main_alone l.steps
