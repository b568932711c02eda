-- The law, from the lemmas.
use Rattle.xk_law_traces.proofs.OneRunLaw.{one_every, one_prints}
use Rattle.xk_law_traces.proofs.one_run.Goals as goal

pub returns-clause-every : goal.returns-clause-every
returns-clause-every c m args s t z y limits ok taken = one_every m args limits ok taken s t z y

pub returns-clause-prints : goal.returns-clause-prints
returns-clause-prints c m args s t z y limits ok taken = one_prints m args limits ok taken s t z y
