use Rattle.xk_serve.proofs.RunLogLemmas.{charted, charted_alone, replayed, replayed_alone}
use Rattle.xk_serve.proofs.laws.a_log_tells_its_run.Goals as goal

pub returns-clause-replayed : goal.returns-clause-replayed
returns-clause-replayed c t way bytes logged r is answers zero = replayed t way bytes logged r is answers zero

pub returns-clause-replayed_alone : goal.returns-clause-replayed_alone
returns-clause-replayed_alone c t way bytes logged r s is answers zero again not4 =
    replayed_alone t way bytes logged r is answers zero s again not4

pub returns-clause-charted : goal.returns-clause-charted
returns-clause-charted c t way bytes logged r is answers zero = charted t way bytes logged r is answers zero

pub returns-clause-charted_alone : goal.returns-clause-charted_alone
returns-clause-charted_alone c t way bytes logged r s is answers zero again not4 =
    charted_alone t way bytes logged r is answers zero s again not4
