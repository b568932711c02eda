use Rattle.xk_activity.proofs.ReachabilityLemmas.{reached_safe}
use Rattle.xk_activity.proofs.laws.reached_frames.Goals as goal

pub returns : goal.returns
returns c = reached_safe
