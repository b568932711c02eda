use Rattle.std.proofs.Common.{◌≡◌}
use Rattle.xk_outcomes.specs.Found.{settled}
use Rattle.xk_outcomes.specs.Search.{LeadsOn}
use Rattle.xk_outcomes.proofs.run.Run.settle.Given as goal

-- so many private steps were taken
abbrev pub invariant-loop-turn : goal.invariant-loop-turn
invariant-loop-turn l = record {
  to : l.self.to ≡ settled l.turn l.fn.self.to;
  leads : LeadsOn l.fn.self.schedule.items l.fn.self.to l.self.schedule.items l.self.to;
}
