-- The law, from the lemmas.
use Rattle.xk_law_commute.specs.Exploration.{IsIn}
use Rattle.xk_closed.specs.Unread.{WhereRead}
use Rattle.xk_closed.proofs.ClosedLaw.{closed_sets}
use Rattle.xk_closed.proofs.UnreadLaw.{by_read}
use Rattle.xk_closed.proofs.closed_sets.Goals as goal

pub returns : goal.returns
returns c m live rest args all limits ok liveness R = closed_sets m limits ok (WhereRead live rest)
    (by_read m rest R limits ok live liveness) args (IsIn all)
