-- The law, from the lemmas.
use Rattle.xk_closed.proofs.PhaseLaw.{clock_stuck}
use Rattle.xk_closed.proofs.WaitLaw.{ended_stuck}
use Rattle.xk_closed.proofs.clock_waits.Goals as goal

pub returns-clause-waits : goal.returns-clause-waits
returns-clause-waits call m w set c r d act limits ok = clock_stuck m limits ok w set c r d act

pub returns-clause-over : goal.returns-clause-over
returns-clause-over call m w set r act at over = ended_stuck m set r act over w at
