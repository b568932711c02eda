-- The law, from the lemmas.
use Rattle.xk_law_rounds.proofs.ClassSpanLaw.{greedy}
use Rattle.xk_law_rounds.proofs.laws.greedy.Goals as goal

pub returns : goal.returns
returns c = greedy
