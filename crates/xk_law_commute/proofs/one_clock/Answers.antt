-- The law, from the lemmas.
use Rattle.xk_law_commute.proofs.OneClockLaw.{changes_commute, start_commutes}
use Rattle.xk_law_commute.proofs.one_clock.Goals as goal

pub returns-clause-changes : goal.returns-clause-changes
returns-clause-changes c = changes_commute

pub returns-clause-start : goal.returns-clause-start
returns-clause-start c = start_commutes
