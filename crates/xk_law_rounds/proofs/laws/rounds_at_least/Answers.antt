-- The law, from the lemmas.
use Rattle.xk_law_rounds.proofs.BusyLaw.{span_at_least, work_at_least}
use Rattle.xk_law_rounds.proofs.laws.rounds_at_least.Goals as goal

pub returns-clause-span : goal.returns-clause-span
returns-clause-span c = span_at_least

pub returns-clause-work : goal.returns-clause-work
returns-clause-work c = work_at_least
