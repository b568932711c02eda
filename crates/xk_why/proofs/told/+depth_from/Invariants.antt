use Rattle.std.proofs.Common.{length}
use Rattle.xk_why.proofs.told.+depth_from.Given as goal

-- one frame fewer
abbrev pub decreases-depth_from : goal.decreases-depth_from
decreases-depth_from l = length l.frames.now.callers
