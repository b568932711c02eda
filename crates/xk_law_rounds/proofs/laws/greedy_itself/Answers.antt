-- The law, from the lemmas.
use Rattle.xk_law_rounds.proofs.SpanLaw.{greedy_itself}
use Rattle.xk_law_rounds.proofs.laws.greedy_itself.Goals as goal

pub returns : goal.returns
returns c = greedy_itself
