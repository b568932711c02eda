use Rattle.xk_log.proofs.LineReaderLemmas.{parts_of, no_steps, none_of}
use Rattle.xk_log.proofs.lines.entry_of.Goals as goal

pub returns-in_err-act-2-clause-none : goal.returns-in_err-act-2-clause-none
returns-in_err-act-2-clause-none c =
    none_of c.args.line.now _ (λ e fits is. c.in_err-act-2.ensures.none e.act fits.act
    (parts_of c.args.line.now _ _ e c.in_ok-act.ensures.found c.in_ok-act.ensures.first fits is).0)

pub returns-in_err-steps-clause-none : goal.returns-in_err-steps-clause-none
returns-in_err-steps-clause-none c =
    none_of c.args.line.now _ (λ e fits is. c.in_err-steps.ensures.none e.steps fits.steps
    (parts_of c.args.line.now _ _ e c.in_ok-act.ensures.found c.in_ok-act.ensures.first fits is).1)

pub returns-then-steps-eq0-clause-none : goal.returns-then-steps-eq0-clause-none
returns-then-steps-eq0-clause-none c = λ e fits is.
    no_steps c.args.line.now _ _ e c.in_ok-steps.steps c.in_ok-act.ensures.found c.in_ok-act.ensures.first c.in_ok-steps.ensures.found
    c.if-steps-eq0.true fits is
