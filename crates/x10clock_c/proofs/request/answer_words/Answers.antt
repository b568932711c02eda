use Rattle.std.proofs.Common.{inl, inr, refl}
use Rattle.std.proofs.lemmas.Result.{IfOk-weaker}
use Rattle.xk_cli.specs.CommandLine.{texts}
use Rattle.x10clock_c.specs.Call.{AnswersRequest}
use Rattle.x10clock_c.proofs.CallLemmas.{asked}
use Rattle.x10clock_c.proofs.request.answer_words.Goals as goal

pub returns-in-Ok : goal.returns-in-Ok
returns-in-Ok c =
    IfOk-weaker c.answer_request.result _ _
    (λ a h. inl (asked c.in-Ok.request (texts c.args.words.now) _ (λ r. AnswersRequest r c.args.program.now c.args.input.now a) refl
    c.in-Ok.ensures.understood c.in-Ok.ensures.job h))
    c.answer_request.ensures

pub returns-in-Err : goal.returns-in-Err
returns-in-Err c =
    IfOk-weaker c.answer_fault.result _ _ (λ a h. inr (c.in-Err.fault, c.in-Err.ensures.refused, h)) c.answer_fault.ensures
