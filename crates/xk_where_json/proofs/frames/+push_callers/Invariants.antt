use Rattle.std.proofs.Common.{length}
use Rattle.xk_where_json.proofs.frames.+push_callers.Given as goal

-- one frame fewer
abbrev pub decreases-push_callers : goal.decreases-push_callers
decreases-push_callers l = length l.frames.now.callers
