use Rattle.xk_activity.proofs.StepAgreementLemmas.{joined}
use Rattle.xk_activity.proofs.laws.goes_with_steps.Goals as goal

pub returns : goal.returns
returns c = joined
