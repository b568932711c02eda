-- The digest of what is left of a world when those that have ended are left out. This project's own.
use Rattle.std.specs.Prelude.{ℕ, ℤ, List}
use Rattle.xk_types.specs.World.{World}
use Rattle.xk_liveness.specs.Liveness.{SlotTable}
use Rattle.xk_ranks.specs.Ranks.{remains}
use Rattle.xk_digests.specs.Digest.{world_digest}

abbrev pub rank_digest : SlotTable → World → List ℤ → ℕ
rank_digest live w numbers = world_digest live (remains w) numbers
