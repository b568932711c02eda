-- The law, from the lemmas.
use Rattle.xk_why.proofs.SliceLaw.{slice_is_exact}
use Rattle.xk_why.proofs.laws.slice_is_exact.Goals as goal

pub returns : goal.returns
returns c = slice_is_exact
