use Rattle.xk_exprs.proofs.NumberLemmas.{number_found, number_again}
use Rattle.xk_exprs.proofs.laws.numbers.Goals as goal

pub returns-clause-found : goal.returns-clause-found
returns-clause-found c = number_found

pub returns-clause-again : goal.returns-clause-again
returns-clause-again c = number_again
