-- The law, from the lemmas.
use Rattle.xk_span.proofs.StepLemmas.{path_is_as_long}
use Rattle.xk_span.proofs.laws.path_is_as_long.Goals as goal

pub returns : goal.returns
returns c = path_is_as_long
