use Rattle.xk_serve.proofs.ExplainedOnceLemmas.{checked, explained, said_once}
use Rattle.xk_serve.proofs.laws.explanations.Goals as goal

pub returns-clause-explained : goal.returns-clause-explained
returns-clause-explained c = explained

pub returns-clause-said : goal.returns-clause-said
returns-clause-said c = said_once

pub returns-clause-checked : goal.returns-clause-checked
returns-clause-checked c = checked
