-- The law, from the lemmas.
use Rattle.xk_greedy.proofs.ExistenceLemmas.{rounds_exist}
use Rattle.xk_greedy.proofs.laws.rounds_exist.Goals as goal

pub returns : goal.returns
returns c = rounds_exist
