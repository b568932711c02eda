use Rattle.std.proofs.Common.{ℕ, ◌<◌}
use Rattle.xk_core.specs.Alikeness.{IsAlikeActivity}
use Rattle.xk_core.proofs.machine.Core.are_activities_alike.Given as goal

-- so far all are alike
abbrev pub invariant-loop-a : goal.invariant-loop-a
invariant-loop-a l = (b : ℕ) → b < l.a → IsAlikeActivity l.self.world l.other.world b
