-- The law, from the lemmas.
use Rattle.xk_span.proofs.PathLaw.{path_is_exact}
use Rattle.xk_span.proofs.laws.path_is_exact.Goals as goal

pub returns : goal.returns
returns c = path_is_exact
