use Rattle.xk_log.proofs.VerdictLemmas.{one_verdict}
use Rattle.xk_log.proofs.laws.one_verdict.Goals as goal

pub returns : goal.returns
returns c = one_verdict
