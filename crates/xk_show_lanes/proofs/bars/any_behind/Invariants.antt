use Rattle.std.proofs.Common.{◌≡◌}
use Rattle.xk_show_lanes.specs.Lanes.{any_behind, is_on}
use Rattle.xk_show_lanes.proofs.bars.any_behind.Given as goal

-- one of those so far is
abbrev pub invariant-loop-k : goal.invariant-loop-k
invariant-loop-k l = l.any ≡ any_behind (is_on l.core.world l.clock) l.b l.k
