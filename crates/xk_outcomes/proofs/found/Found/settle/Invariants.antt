use Rattle.std.proofs.Common.{◌≡◌}
use Rattle.xk_outcomes.specs.Found.{settled}
use Rattle.xk_outcomes.proofs.found.Found.settle.Given as goal

-- so many private steps were taken
abbrev pub invariant-loop-turn : goal.invariant-loop-turn
invariant-loop-turn l = l.self ≡ settled l.turn l.fn.self
