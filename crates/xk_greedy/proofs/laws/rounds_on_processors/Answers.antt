-- The law, from the lemmas.
use Rattle.xk_greedy.proofs.ProcessorLemmas.{least_span, least_work, most}
use Rattle.xk_greedy.proofs.laws.rounds_on_processors.Goals as goal

pub returns-clause-least : goal.returns-clause-least
returns-clause-least c = least_span

pub returns-clause-share : goal.returns-clause-share
returns-clause-share c = least_work

pub returns-clause-most : goal.returns-clause-most
returns-clause-most c = most
