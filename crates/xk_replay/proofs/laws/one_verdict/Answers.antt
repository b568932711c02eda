use Rattle.xk_replay.proofs.VerdictLemmas.{one_verdict}
use Rattle.xk_replay.proofs.laws.one_verdict.Goals as goal

pub returns : goal.returns
returns c = one_verdict
