use Rattle.std.proofs.Common.{◌≡◌, ◌-◌, drop}
use Rattle.xk_beginnings.specs.Beginnings.{steps_in}
use Rattle.xk_beginnings.proofs.beginning.lacking.Given as goal

-- what the rest of the log lacks is what the log does
abbrev pub invariant-loop-entry : goal.invariant-loop-entry
invariant-loop-entry l = l.left - steps_in (drop l.entry-index l.log) ≡ l.count - steps_in l.log
