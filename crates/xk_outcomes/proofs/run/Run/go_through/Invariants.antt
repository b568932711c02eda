use Rattle.std.proofs.Common.{◌≡◌, take}
use Rattle.xk_outcomes.specs.Found.{through}
use Rattle.xk_outcomes.specs.Search.{LeadsOn}
use Rattle.xk_outcomes.proofs.run.Run.go_through.Given as goal

-- the steps of those before this one were taken
abbrev pub invariant-loop-rank : goal.invariant-loop-rank
invariant-loop-rank l = record {
  to : l.self.to ≡ through (take l.rank-index l.ranks) l.fn.self.to;
  leads : LeadsOn l.fn.self.schedule.items l.fn.self.to l.self.schedule.items l.self.to;
}
