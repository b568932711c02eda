-- The laws of the contract.
use Rattle.xk_names.proofs.FreeVariablesLaw.{takes_free, takes_once, takes_in_order}
use Rattle.xk_names.proofs.laws.takes_free_variables.Goals as goal

pub returns-clause-free : goal.returns-clause-free
returns-clause-free c = takes_free

pub returns-clause-once : goal.returns-clause-once
returns-clause-once c = takes_once

pub returns-clause-order : goal.returns-clause-order
returns-clause-order c = takes_in_order
