use Rattle.xk_module.proofs.ModuleLemmas.{named_once}
use Rattle.xk_module.proofs.TextLemmas.{one_module}
use Rattle.xk_module.proofs.laws.at_most_one_module.Goals as goal

pub returns-clause-value : goal.returns-clause-value
returns-clause-value c = named_once

pub returns-clause-text : goal.returns-clause-text
returns-clause-text c = one_module
