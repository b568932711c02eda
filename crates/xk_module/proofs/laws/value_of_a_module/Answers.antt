use Rattle.xk_module.proofs.JsonValueLemmas.{value_named, named_alone}
use Rattle.xk_module.proofs.laws.value_of_a_module.Goals as goal

pub returns-clause-named : goal.returns-clause-named
returns-clause-named c = value_named

pub returns-clause-alone : goal.returns-clause-alone
returns-clause-alone c = named_alone
