-- The law, from the lemmas.
use Rattle.xk_law_commute.proofs.QuietStepLaw.{quiet_steps_go_first, alike_worlds_go_alike}
use Rattle.xk_law_commute.proofs.quiet_first.Goals as goal

pub returns-clause-first : goal.returns-clause-first
returns-clause-first c = quiet_steps_go_first

pub returns-clause-alike : goal.returns-clause-alike
returns-clause-alike c = alike_worlds_go_alike
