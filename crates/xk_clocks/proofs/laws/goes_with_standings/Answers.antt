use Rattle.xk_clocks.proofs.CountStepLemmas.{ready_is, settled_is, at_rest, made_is, given_is, not_given_is, resumed_is, dropped_is, passed_is, owed_is, owed_pending_is, owed_signalled_is, owed_by_rest_is}
use Rattle.xk_clocks.proofs.laws.goes_with_standings.Goals as goal

pub returns-clause-ready : goal.returns-clause-ready
returns-clause-ready c = ready_is

pub returns-clause-settled : goal.returns-clause-settled
returns-clause-settled c = settled_is

pub returns-clause-at_rest : goal.returns-clause-at_rest
returns-clause-at_rest c = at_rest

pub returns-clause-made : goal.returns-clause-made
returns-clause-made c = made_is

pub returns-clause-given : goal.returns-clause-given
returns-clause-given c = given_is

pub returns-clause-not_given : goal.returns-clause-not_given
returns-clause-not_given c = not_given_is

pub returns-clause-resumed : goal.returns-clause-resumed
returns-clause-resumed c = resumed_is

pub returns-clause-dropped : goal.returns-clause-dropped
returns-clause-dropped c = dropped_is

pub returns-clause-passed : goal.returns-clause-passed
returns-clause-passed c = passed_is

pub returns-clause-owed : goal.returns-clause-owed
returns-clause-owed c = owed_is

pub returns-clause-owed_pending : goal.returns-clause-owed_pending
returns-clause-owed_pending c = owed_pending_is

pub returns-clause-owed_signalled : goal.returns-clause-owed_signalled
returns-clause-owed_signalled c = owed_signalled_is

pub returns-clause-owed_by_rest : goal.returns-clause-owed_by_rest
returns-clause-owed_by_rest c = owed_by_rest_is
