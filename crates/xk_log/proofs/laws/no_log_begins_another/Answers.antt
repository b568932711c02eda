use Rattle.xk_log.proofs.VerdictLemmas.{no_log_begins_another}
use Rattle.xk_log.proofs.laws.no_log_begins_another.Goals as goal

pub returns : goal.returns
returns c = no_log_begins_another
