use Rattle.xk_answers.proofs.TaleLemmas.{both_told}
use Rattle.xk_answers.proofs.picture.module_span_of.Goals as goal

pub returns : goal.returns
returns c = both_told _ _ _ _ c.in_ok-report.ensures.text c.in_ok-report.ensures.free
