use Rattle.std.proofs.lemmas.Result.{err_from_is_err_and}
use Rattle.xk_replay.proofs.VerdictLemmas.{stop_told}
use Rattle.xk_answers.proofs.LogLemmas.{replay_stands, stop_goes_on}
use Rattle.xk_answers.proofs.replay.run_so_far.Goals as goal

pub returns-in_err-replay_so_far-clause-fault : goal.returns-in_err-replay_so_far-clause-fault
returns-in_err-replay_so_far-clause-fault g c =
    let p = err_from_is_err_and c.from_residual-in_err-replay_so_far.result c.from_residual-in_err-replay_so_far.ensures.1 in
    let m = c.args.verified.now in
    let given = c.args.arguments.now in
    let f = c.in_err-replay_so_far.field-0.0.1 in
    rw (p.1, p.2) (replay_stands m given (g.L.Source.remaining c.args.log_in.now) _ _ c.in_ok-log.log
    f c.in_ok-log.ensures.device c.in_ok-log.ensures.of_some (stop_told m given _ f c.in_err-replay_so_far.ensures.fault))

pub returns-in_err-replay_so_far-clause-goes_on : goal.returns-in_err-replay_so_far-clause-goes_on
returns-in_err-replay_so_far-clause-goes_on g c =
    let p = err_from_is_err_and c.from_residual-in_err-replay_so_far.result c.from_residual-in_err-replay_so_far.ensures.1 in
    let stop = c.in_err-replay_so_far.ensures.fault in
    rw (p.1, p.2) (stop_goes_on c.args.verified.now c.args.arguments.now _ c.in_err-replay_so_far.field-0.0.1 stop)
