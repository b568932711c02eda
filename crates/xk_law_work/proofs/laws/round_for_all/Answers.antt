-- The law, from the lemmas.
use Rattle.xk_law_work.proofs.ToldSpanLaw.{round_for_all}
use Rattle.xk_law_work.proofs.laws.round_for_all.Goals as goal

pub returns : goal.returns
returns c = round_for_all
