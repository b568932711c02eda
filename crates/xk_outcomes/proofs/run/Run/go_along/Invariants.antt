use Rattle.std.proofs.Common.{◌≡◌, vec_len}
use Rattle.xk_outcomes.specs.Found.{along}
use Rattle.xk_outcomes.specs.Search.{LeadsOn}
use Rattle.xk_outcomes.proofs.run.Run.go_along.Given as goal

-- what is left of the way leads where the whole did
abbrev pub invariant-loop-rank : goal.invariant-loop-rank
invariant-loop-rank l = record {
  to : along l.way.items l.self.to ≡ along l.fn.way.items l.fn.self.to;
  leads : LeadsOn l.fn.self.schedule.items l.fn.self.to l.self.schedule.items l.self.to;
}

abbrev pub decreases-loop-rank : goal.decreases-loop-rank
decreases-loop-rank l = vec_len l.way
