use Rattle.std.proofs.Common.{sym}
use Rattle.xk_log.specs.LogText.{IsLog}
use Rattle.xk_log.proofs.VerdictLemmas.{no_log_begins_another}
use Rattle.xk_replay.proofs.RunLogLemmas.{log_of_run}
use Rattle.xk_replay.proofs.log_writer.write_log.Goals as goal

pub returns-clause-is_log : goal.returns-clause-is_log
returns-clause-is_log g c =
    let e = c.args.ended.now in
    log_of_run e.module.now e.log.items e.printed.items e.core c.activities-there.ensures.core e.run

pub returns-clause-alone : goal.returns-clause-alone
returns-clause-alone g c es more other begins =
    let e = c.args.ended.now in
    let own : IsLog e.log.items = log_of_run e.module.now e.log.items e.printed.items e.core c.activities-there.ensures.core e.run in
    sym (no_log_begins_another e.log.items es more own other begins)
