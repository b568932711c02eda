use Rattle.std.proofs.Common.{ℕ, ◌<◌}
use Rattle.xk_core.specs.Alikeness.{StandsAlike}
use Rattle.xk_digests.proofs.likeness.is_same_clock.Given as goal

-- so far each stands alike
abbrev pub invariant-loop-a : goal.invariant-loop-a
invariant-loop-a l = (b : ℕ) → b < l.a → StandsAlike l.core.world l.other.world l.clock b
