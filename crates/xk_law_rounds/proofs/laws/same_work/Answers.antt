-- The law, from the lemmas.
use Rattle.xk_law_rounds.proofs.RoundLaw.{same_work}
use Rattle.xk_law_rounds.proofs.laws.same_work.Goals as goal

pub returns : goal.returns
returns c = same_work
