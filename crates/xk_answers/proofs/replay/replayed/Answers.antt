use Rattle.std.proofs.Common.{IfOk, subst}
use Rattle.xk_log.specs.SomeBytes.{OfSome}
use Rattle.xk_answers.specs.Results.{ComesTo, Replay}
use Rattle.xk_answers.proofs.LogLemmas.{run_stands}
use Rattle.xk_answers.proofs.replay.replayed.Goals as goal

pub replayed_by-requires-clause-taken : goal.replayed_by-requires-clause-taken
replayed_by-requires-clause-taken g c = rw c.in_ok-verified.ensures.accepted.0 c.in_ok-verified.ensures.taken

pub returns-clause-done : goal.returns-clause-done
returns-clause-done g c =
    let known = g.L.Source.remaining c.args.log_in.now in
    subst (λ m. IfOk c.replayed_by.result (λ d. OfSome known (λ logged. ComesTo Replay m c.args.arguments.now logged d))) c.in_ok-verified.ensures.accepted.0 c.replayed_by.ensures.done

pub returns-clause-fault : goal.returns-clause-fault
returns-clause-fault g c =
    let accepted = c.in_ok-verified.ensures.accepted in
    run_stands _ _ _ (g.L.Source.remaining c.args.log_in.now) _ _ c.replayed_by.result accepted.0 accepted.1 c.in_ok-verified.ensures.taken c.replayed_by.ensures.fault
