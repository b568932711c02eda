use Rattle.std.proofs.Common.{◌≡◌, ◌++◌}
use Rattle.xk_outcomes.specs.Listed.{outcomes_in}
use Rattle.xk_outcomes.proofs.listed.Listed.into_outcomes.Given as goal

-- those so far, and those that are left
abbrev pub invariant-loop-numbers : goal.invariant-loop-numbers
invariant-loop-numbers l = l.list.items ++ outcomes_in l.numbers-iterator ≡ l.fn.self
