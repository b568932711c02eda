use Rattle.std.proofs.Common.{IfOk, subst}
use Rattle.xk_log.specs.SomeBytes.{OfSome}
use Rattle.xk_answers.specs.Results.{IsTelling, IsText, Where}
use Rattle.xk_answers.proofs.LogLemmas.{text_stands}
use Rattle.xk_answers.proofs.whereabouts.stood.Goals as goal

pub stood_by-requires-clause-taken : goal.stood_by-requires-clause-taken
stood_by-requires-clause-taken g c = rw c.in_ok-verified.ensures.accepted.0 c.in_ok-verified.ensures.taken

pub returns-clause-done : goal.returns-clause-done
returns-clause-done g c = λ form file bytes given.
    let known = g.L.Source.remaining c.args.log_in.now in
    subst (λ m. IfOk c.stood_by.result (λ d. OfSome known (λ logged. IsText (IsTelling (Where c.args.json c.args.at) form file bytes m c.args.arguments.now logged) d)))
    c.in_ok-verified.ensures.accepted.0 (c.stood_by.ensures.done form file bytes given)

pub returns-clause-fault : goal.returns-clause-fault
returns-clause-fault g c =
    let accepted = c.in_ok-verified.ensures.accepted in
    text_stands _ _ (g.L.Source.remaining c.args.log_in.now) _ _ c.stood_by.result accepted.1 c.in_ok-verified.ensures.taken c.stood_by.ensures.fault
