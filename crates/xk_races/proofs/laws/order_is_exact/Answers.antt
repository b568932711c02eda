-- The law, from the lemmas.
use Rattle.xk_races.proofs.SightLemmas.{order_is_exact}
use Rattle.xk_races.proofs.laws.order_is_exact.Goals as goal

pub returns : goal.returns
returns c = order_is_exact
