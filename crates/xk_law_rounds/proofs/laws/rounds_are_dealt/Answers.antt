-- The law, from the lemmas.
use Rattle.xk_law_rounds.proofs.DealtLaw.{rounds_dealt}
use Rattle.xk_law_rounds.proofs.laws.rounds_are_dealt.Goals as goal

pub returns : goal.returns
returns c = rounds_dealt
