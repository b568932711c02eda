use Rattle.std.proofs.Common.{◌∙◌, IfOk, sym, subst}
use Rattle.std.proofs.lemmas.Result.{err_from_is_err_and}
use Rattle.xk_log.specs.SomeBytes.{OfSome}
use Rattle.xk_answers.specs.Results.{Draw, IsTelling, IsText}
use Rattle.xk_answers.proofs.LogLemmas.{any_stands, going_stands, module_goes_on, run_stands}
use Rattle.xk_answers.proofs.picture.drawn.Goals as goal

pub returns-in_err-verified-clause-stands : goal.returns-in_err-verified-clause-stands
returns-in_err-verified-clause-stands g c =
    let p = err_from_is_err_and c.from_residual.result c.from_residual.ensures.1 in
    rw (p.1, p.2) (going_stands c.args.picture c.in_err-verified.field-0.0 (module_goes_on _ _ c.in_err-verified.field-0.0 c.in_err-verified.ensures.refused))

pub drawn_whole-requires-clause-taken : goal.drawn_whole-requires-clause-taken
drawn_whole-requires-clause-taken g c = rw c.in_ok-verified.ensures.accepted.0 c.in_ok-verified.ensures.taken

pub drawn_so_far-requires-clause-taken : goal.drawn_so_far-requires-clause-taken
drawn_so_far-requires-clause-taken g c = rw c.in_ok-verified.ensures.accepted.0 c.in_ok-verified.ensures.taken

pub returns-then-is_of_whole-clause-done : goal.returns-then-is_of_whole-clause-done
returns-then-is_of_whole-clause-done g c = λ form bytes given.
    let known = g.L.Source.remaining c.args.log_in.now in
    subst
    (λ m. IfOk c.drawn_whole.result
    (λ d. OfSome known (λ logged. IsText (IsTelling (Draw c.args.picture) form c.args.file.now bytes m c.args.arguments.now logged) d)))
    c.in_ok-verified.ensures.accepted.0 (c.drawn_whole.ensures.done form bytes given)

pub returns-then-is_of_whole-clause-fault : goal.returns-then-is_of_whole-clause-fault
returns-then-is_of_whole-clause-fault g c =
    let accepted = c.in_ok-verified.ensures.accepted in
    run_stands _ _ _ (g.L.Source.remaining c.args.log_in.now) _ _ c.drawn_whole.result accepted.0 accepted.1 c.in_ok-verified.ensures.taken
    c.drawn_whole.ensures.fault

pub returns-then-is_of_whole-clause-stands : goal.returns-then-is_of_whole-clause-stands
returns-then-is_of_whole-clause-stands g c = any_stands c.args.picture c.drawn_whole.result (sym c.is_of_whole.ensures ∙ c.if-is_of_whole.true)

pub returns-clause-done : goal.returns-clause-done
returns-clause-done g c = λ form bytes given.
    let known = g.L.Source.remaining c.args.log_in.now in
    subst
    (λ m. IfOk c.drawn_so_far.result
    (λ d. OfSome known (λ logged. IsText (IsTelling (Draw c.args.picture) form c.args.file.now bytes m c.args.arguments.now logged) d)))
    c.in_ok-verified.ensures.accepted.0 (c.drawn_so_far.ensures.done form bytes given)

pub returns-clause-fault : goal.returns-clause-fault
returns-clause-fault g c =
    let accepted = c.in_ok-verified.ensures.accepted in
    run_stands _ _ _ (g.L.Source.remaining c.args.log_in.now) _ _ c.drawn_so_far.result accepted.0 accepted.1 c.in_ok-verified.ensures.taken
    c.drawn_so_far.ensures.fault
