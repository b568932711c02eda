use Rattle.xk_exprs.proofs.ExpressionLemmas.{expressions}
use Rattle.xk_exprs.proofs.CompletenessLemmas.{expression_again, expression_once}
use Rattle.xk_exprs.proofs.laws.expressions.Goals as goal

pub returns-clause-found : goal.returns-clause-found
returns-clause-found c = expressions

pub returns-clause-again : goal.returns-clause-again
returns-clause-again c = expression_again

pub returns-clause-once : goal.returns-clause-once
returns-clause-once c = expression_once
