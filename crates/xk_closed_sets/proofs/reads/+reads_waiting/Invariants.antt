use Rattle.std.proofs.Common.{length}
use Rattle.xk_closed_sets.proofs.reads.+reads_waiting.Given as goal

-- one frame fewer
abbrev pub decreases-reads_waiting : goal.decreases-reads_waiting
decreases-reads_waiting l = length l.frames.now.callers
