-- The law, from the lemmas.
use Rattle.xk_law_rounds.proofs.BusyLaw.{at_most, at_most_all}
use Rattle.xk_law_rounds.proofs.laws.rounds_at_most.Goals as goal

pub returns-clause-itself : goal.returns-clause-itself
returns-clause-itself c = at_most

pub returns-clause-every : goal.returns-clause-every
returns-clause-every c = at_most_all
