-- The laws, from the lemmas.
use Rattle.xk_law_names.proofs.ActivityNameStepLaw.{step-swapped, next-swapped}
use Rattle.xk_law_names.proofs.ActivityNameRunLaw.{goes_renamed, reached_full}
use Rattle.xk_law_names.proofs.ActivityNameStartLaw.{starts_square}
use Rattle.xk_law_names.proofs.ActivityNameOrderLaw.{either_order}
use Rattle.xk_law_names.proofs.activities.activity_names.Goals as goal

pub returns-clause-steps : goal.returns-clause-steps
returns-clause-steps c = step-swapped

pub returns-clause-instructions : goal.returns-clause-instructions
returns-clause-instructions c = next-swapped

pub returns-clause-runs : goal.returns-clause-runs
returns-clause-runs c = goes_renamed

pub returns-clause-reached : goal.returns-clause-reached
returns-clause-reached c = reached_full

pub returns-clause-starts : goal.returns-clause-starts
returns-clause-starts c = starts_square

pub returns-clause-orders : goal.returns-clause-orders
returns-clause-orders c = either_order
