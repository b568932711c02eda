-- The law, from the lemma.
use Rattle.xk_law_commute.proofs.PlainStepLaw.{plain_steps}
use Rattle.xk_law_commute.proofs.plain_steps.Goals as goal

pub returns : goal.returns
returns c = plain_steps
