use Rattle.std.proofs.Common.{ℕ, ◌<◌}
use Rattle.xk_core.specs.Alikeness.{StandsAlike}
use Rattle.xk_core.proofs.machine.Core.is_clock_alike.Given as goal

-- so far each stands alike
abbrev pub invariant-loop-a : goal.invariant-loop-a
invariant-loop-a l = (b : ℕ) → b < l.a → StandsAlike l.self.world l.other.world l.clock b
