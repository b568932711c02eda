use Rattle.std.proofs.Common.{inl, inr}
use Rattle.std.proofs.lemmas.Result.{IfErr-weaker, IfOk-weaker}
use Rattle.xk_answers.proofs.verdict.explained.Goals as goal

pub returns-in-Ok-clause-done : goal.returns-in-Ok-clause-done
returns-in-Ok-clause-done c = λ args logged.
    IfOk-weaker c.verdict_on.result _ _ (λ d h. (c.in-Ok.m, c.in-Ok.ensures.program.0, h))
    (c.verdict_on.ensures.done c.args.form args logged c.in-Ok.ensures.program.1 c.in-Ok.ensures.hints)

pub returns-in-Ok-clause-fault : goal.returns-in-Ok-clause-fault
returns-in-Ok-clause-fault c =
    IfErr-weaker c.verdict_on.result _ _ (λ r h. inr (c.in-Ok.m, c.in-Ok.ensures.program.0, h)) c.verdict_on.ensures.fault

pub returns-in-Ok-clause-said : goal.returns-in-Ok-clause-said
returns-in-Ok-clause-said c = c.verdict_on.ensures.said c.args.form c.in-Ok.ensures.program

pub returns-in-Err-clause-fault : goal.returns-in-Err-clause-fault
returns-in-Err-clause-fault c = inl c.in-Err.ensures.fault
