-- The law, from the lemmas.
use Rattle.xk_law_traces.proofs.OneRunLaw.{same, prints}
use Rattle.xk_law_traces.proofs.one_class.Goals as goal

pub returns-clause-same : goal.returns-clause-same
returns-clause-same c m args s t z limits ok taken = same m args limits ok taken s t z

pub returns-clause-prints : goal.returns-clause-prints
returns-clause-prints c m args s t z limits ok taken = prints m args limits ok taken s t z
