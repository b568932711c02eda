-- The law, from the lemmas.
use Rattle.xk_races.proofs.RaceListLemmas.{races_are_exact}
use Rattle.xk_races.proofs.laws.races_are_exact.Goals as goal

pub returns : goal.returns
returns c = races_are_exact
