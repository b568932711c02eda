-- The law, from the lemmas.
use Rattle.xk_law_rounds.proofs.SpanLaw.{greedy_rounds}
use Rattle.xk_law_rounds.proofs.laws.greedy_rounds.Goals as goal

pub returns : goal.returns
returns c = greedy_rounds
