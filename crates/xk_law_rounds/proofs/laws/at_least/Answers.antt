-- The law, from the lemmas.
use Rattle.xk_law_rounds.proofs.RoundLaw.{at_least}
use Rattle.xk_law_rounds.proofs.laws.at_least.Goals as goal

pub returns : goal.returns
returns c = at_least
