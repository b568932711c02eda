use Rattle.std.proofs.Common.{◌≡◌, take}
use Rattle.xk_outcomes.specs.Ways.{steps_of}
use Rattle.xk_outcomes.proofs.entries.Entries.steps.Given as goal

-- the ranks on the ways before this one
abbrev pub invariant-loop-number : goal.invariant-loop-number
invariant-loop-number l = l.ranks.items ≡ steps_of l.self.ways (take l.number-index l.ways)
