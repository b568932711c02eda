-- The law, from the lemmas.
use Rattle.xk_law_names.proofs.ClockNameStepLaw.{step_swapped}
use Rattle.xk_law_names.proofs.ClockNameRunLaw.{goes_swapped}
use Rattle.xk_law_names.proofs.ClockNameSquareLaw.{makes_swapped}
use Rattle.xk_law_names.proofs.clocks.clock_names.Goals as goal

pub returns-clause-steps : goal.returns-clause-steps
returns-clause-steps c = step_swapped

pub returns-clause-runs : goal.returns-clause-runs
returns-clause-runs c = goes_swapped

pub returns-clause-makes : goal.returns-clause-makes
returns-clause-makes c = makes_swapped
