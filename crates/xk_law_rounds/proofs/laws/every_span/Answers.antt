-- The law, from the lemmas.
use Rattle.xk_law_rounds.proofs.ClassSpanLaw.{every_span}
use Rattle.xk_law_rounds.proofs.laws.every_span.Goals as goal

pub returns : goal.returns
returns c = every_span
