-- The law, from the lemmas.
use Rattle.xk_greedy.proofs.SpanLemmas.{rounds_are_span}
use Rattle.xk_greedy.proofs.laws.rounds_are_span.Goals as goal

pub returns : goal.returns
returns c = rounds_are_span
