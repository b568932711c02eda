use Rattle.std.proofs.Common.{length}
use Rattle.xk_closed_sets.proofs.claims.+waiting.Given as goal

-- one frame fewer
abbrev pub decreases-waiting : goal.decreases-waiting
decreases-waiting l = length l.frames.now.callers
