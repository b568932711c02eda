use Rattle.std.proofs.Common.{map}
use Rattle.xk_random.specs.Runs.{AreShares}
use Rattle.xk_random.specs.Shares.{share_value}
use Rattle.xk_random.proofs.runs.shares_of.Given as goal

-- the shares of the runs so far
abbrev pub invariant-loop-i : goal.invariant-loop-i
invariant-loop-i l = AreShares l.verified l.arguments l.seed l.i (map share_value l.shares.entries)
