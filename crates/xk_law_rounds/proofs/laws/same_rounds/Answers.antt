-- The law, from the lemmas.
use Rattle.xk_law_rounds.proofs.ClassSpanLaw.{same_rounds}
use Rattle.xk_law_rounds.proofs.laws.same_rounds.Goals as goal

pub returns : goal.returns
returns c = same_rounds
