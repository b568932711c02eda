-- The law, from the lemmas.
use Rattle.xk_law_work.proofs.ToldSpanLaw.{span_by_rounds, span_for_all, span_told}
use Rattle.xk_law_work.proofs.laws.span_for_all.Goals as goal

pub returns-clause-told : goal.returns-clause-told
returns-clause-told c = span_told

pub returns-clause-every : goal.returns-clause-every
returns-clause-every c = span_for_all

pub returns-clause-rounds : goal.returns-clause-rounds
returns-clause-rounds c = span_by_rounds
