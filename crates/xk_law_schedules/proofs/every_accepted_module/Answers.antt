-- The law of the contract, from the lemma over all schedules.
use Rattle.xk_law_schedules.proofs.EveryScheduleLaw.{every_schedule}
use Rattle.xk_law_schedules.proofs.every_accepted_module.Goals as goal

pub returns : goal.returns
returns c = every_schedule
