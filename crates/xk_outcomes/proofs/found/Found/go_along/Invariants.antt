use Rattle.std.proofs.Common.{◌≡◌, vec_len}
use Rattle.xk_outcomes.specs.Found.{along}
use Rattle.xk_outcomes.proofs.found.Found.go_along.Given as goal

-- what is left of the way leads where the whole did
abbrev pub invariant-loop-rank : goal.invariant-loop-rank
invariant-loop-rank l = along l.way.items l.self ≡ along l.fn.way.items l.fn.self

abbrev pub decreases-loop-rank : goal.decreases-loop-rank
decreases-loop-rank l = vec_len l.way
