-- The law, from the lemmas.
use Rattle.xk_law_work.proofs.WorkLaw.{work_for_all, work_is_steps}
use Rattle.xk_law_work.proofs.laws.work_for_all.Goals as goal

pub returns-clause-steps : goal.returns-clause-steps
returns-clause-steps c = work_is_steps

pub returns-clause-every : goal.returns-clause-every
returns-clause-every c = work_for_all
