-- The law, from the lemmas.
use Rattle.xk_why.proofs.RestLaw.{rest_is_exact}
use Rattle.xk_why.proofs.laws.rest_is_exact.Goals as goal

pub returns : goal.returns
returns c = rest_is_exact
