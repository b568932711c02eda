use Rattle.std.proofs.Common.{◌≡◌, ℕ, take}
use Rattle.xk_ranks.specs.Reads.{is_read}
use Rattle.xk_closed_sets.specs.Footprint.{is_set}
use Rattle.xk_closed_sets.specs.Footprints.{rest_of}
use Rattle.xk_closed_sets.proofs.reads.reads_in.Given as goal

abbrev pub invariant-loop-a : goal.invariant-loop-a
invariant-loop-a l = (s : ℕ) → is_set l.word s ≡ is_read (rest_of l.footprints) (take l.a l.core.world.activities) s
