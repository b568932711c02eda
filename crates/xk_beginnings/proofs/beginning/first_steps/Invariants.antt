use Rattle.std.proofs.Common.{◌≡◌, ◌++◌, drop}
use Rattle.xk_beginnings.specs.Beginnings.{first_steps}
use Rattle.xk_beginnings.proofs.beginning.first_steps.Given as goal

-- the entries so far, and then the first steps of the rest, are those of the log
abbrev pub invariant-loop-entry : goal.invariant-loop-entry
invariant-loop-entry l = l.beginning.items ++ first_steps l.left (drop l.entry-index l.log) ≡ first_steps l.count l.log
