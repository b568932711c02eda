-- The law, from the lemmas.
use Rattle.xk_greedy.proofs.OneRunLemmas.{runs_once}
use Rattle.xk_greedy.proofs.laws.rounds_are_one.Goals as goal

pub returns : goal.returns
returns c = runs_once
