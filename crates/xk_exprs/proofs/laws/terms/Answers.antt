use Rattle.xk_exprs.proofs.ExpressionLemmas.{terms_whole}
use Rattle.xk_exprs.proofs.CompletenessLemmas.{term_again}
use Rattle.xk_exprs.proofs.laws.terms.Goals as goal

pub returns-clause-found : goal.returns-clause-found
returns-clause-found c = terms_whole

pub returns-clause-again : goal.returns-clause-again
returns-clause-again c = term_again
