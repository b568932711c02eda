-- The law, from the lemmas.
use Rattle.xk_greedy.proofs.ProcessorLemmas.{busy}
use Rattle.xk_greedy.proofs.laws.rounds_are_busy.Goals as goal

pub returns : goal.returns
returns c = busy
