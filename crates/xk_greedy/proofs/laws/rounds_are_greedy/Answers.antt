-- The law, from the lemmas.
use Rattle.xk_greedy.proofs.GreedyLemmas.{greedy}
use Rattle.xk_greedy.proofs.laws.rounds_are_greedy.Goals as goal

pub returns : goal.returns
returns c = greedy
