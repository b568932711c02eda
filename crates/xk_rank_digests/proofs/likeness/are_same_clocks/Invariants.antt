use Rattle.std.proofs.Common.{ℕ, ◌<◌}
use Rattle.xk_core.specs.Alikeness.{IsAlikeClock}
use Rattle.xk_ranks.specs.Ranks.{remains}
use Rattle.xk_rank_digests.proofs.likeness.are_same_clocks.Given as goal

-- so far all are alike
abbrev pub invariant-loop-c : goal.invariant-loop-c
invariant-loop-c l = (k : ℕ) → k < l.c → IsAlikeClock (remains l.one.world) (remains l.other.world) k
