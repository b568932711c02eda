use Rattle.std.proofs.lemmas.Result.{err_from_is_err_and}
use Rattle.xk_answers.proofs.LogLemmas.{replay_stands}
use Rattle.xk_answers.proofs.replay.run_again.Goals as goal

pub returns-in_err-replay-clause-fault : goal.returns-in_err-replay-clause-fault
returns-in_err-replay-clause-fault g c =
    let p = err_from_is_err_and c.from_residual-in_err-replay.result c.from_residual-in_err-replay.ensures.1 in
    rw (p.1, p.2) (replay_stands c.args.verified.now c.args.arguments.now (g.L.Source.remaining c.args.log_in.now) _ _ c.in_ok-log.log
    c.in_err-replay.field-0.0.1 c.in_ok-log.ensures.device c.in_ok-log.ensures.of_some c.in_err-replay.ensures.fault)
