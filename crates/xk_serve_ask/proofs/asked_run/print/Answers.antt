use Rattle.xk_serve.proofs.ReplyLemmas.{device_begins}
use Rattle.xk_serve_ask.proofs.asked_run.print.Goals as goal

pub returns-in-Err-clause-err_beginning : goal.returns-in-Err-clause-err_beginning
returns-in-Err-clause-err_beginning g c = device_begins _ _ _ _ _ c.report.ensures
