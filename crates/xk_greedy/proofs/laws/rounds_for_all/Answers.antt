-- The law, from the lemmas.
use Rattle.xk_greedy.proofs.SpanLemmas.{rounds_for_all}
use Rattle.xk_greedy.proofs.laws.rounds_for_all.Goals as goal

pub returns : goal.returns
returns c = rounds_for_all
