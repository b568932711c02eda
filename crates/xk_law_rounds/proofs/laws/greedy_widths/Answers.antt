-- The law, from the lemmas.
use Rattle.xk_law_rounds.proofs.GreedyWidthLaw.{greedy_widths}
use Rattle.xk_law_rounds.proofs.laws.greedy_widths.Goals as goal

pub returns : goal.returns
returns c = greedy_widths
