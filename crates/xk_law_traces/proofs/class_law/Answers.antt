-- The law, from the lemmas.
use Rattle.xk_law_traces.proofs.OneRunLaw.{begun}
use Rattle.xk_law_traces.proofs.class_law.Goals as goal

pub returns : goal.returns
returns c m args s t z y limits ok taken = begun m args limits ok taken s t z y
