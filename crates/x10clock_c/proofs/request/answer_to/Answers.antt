use Rattle.std.proofs.Common.{◌∙◌, ℕ, List, ap, inl, subst}
use Rattle.std.proofs.lemmas.Result.{IfOk-weaker}
use Rattle.xk_cli.specs.CommandLine.{texts}
use Rattle.x10clock_c.specs.Call.{AnswersWords}
use Rattle.x10clock_c.specs.Words.{words_of}
use Rattle.x10clock_c.proofs.request.answer_to.Goals as goal

pub returns-in_ok-words_in-in-Ok : goal.returns-in_ok-words_in-in-Ok
returns-in_ok-words_in-in-Ok c =
    let utf8 = c.in-Ok.ensures.cases in
    let same = ap texts c.deref.ensures.value ∙ (c.in_ok-words_in-in-Ok.ensures ∙ ap (λ text. words_of text) utf8.0) in
    IfOk-weaker c.answer_words.result _ _
    (λ a h. inl (utf8.1, subst (λ (given : List (List ℕ)). AnswersWords given c.args.program.now c.args.input.now a) same h))
    c.answer_words.ensures
