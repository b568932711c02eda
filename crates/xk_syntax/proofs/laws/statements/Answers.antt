use Rattle.xk_syntax.proofs.StatementLemmas.{statement_found, statement_again}
use Rattle.xk_syntax.proofs.laws.statements.Goals as goal

pub returns-clause-found : goal.returns-clause-found
returns-clause-found c = statement_found

pub returns-clause-again : goal.returns-clause-again
returns-clause-again c = statement_again
