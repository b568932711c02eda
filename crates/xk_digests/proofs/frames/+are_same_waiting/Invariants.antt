use Rattle.std.proofs.Common.{length}
use Rattle.xk_digests.proofs.frames.+are_same_waiting.Given as goal

-- one frame fewer
abbrev pub decreases-are_same_waiting : goal.decreases-are_same_waiting
decreases-are_same_waiting l = length l.frames.now.callers
