use Rattle.std.proofs.Common.{ℕ, ◌<◌}
use Rattle.xk_core.specs.Alikeness.{StandsAlike}
use Rattle.xk_ranks.specs.Ranks.{remains}
use Rattle.xk_rank_digests.proofs.likeness.is_same_clock.Given as goal

-- so far those of each rank stand alike
abbrev pub invariant-loop-r : goal.invariant-loop-r
invariant-loop-r l = (k : ℕ) → k < l.r → StandsAlike (remains l.one.world) (remains l.other.world) l.clock k
