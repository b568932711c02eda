-- The law, from the lemmas.
use Rattle.xk_law_rounds.proofs.SpanLaw.{causes_complete}
use Rattle.xk_law_rounds.proofs.laws.causes_are_complete.Goals as goal

pub returns : goal.returns
returns c = causes_complete
