use Rattle.std.proofs.Common.{◌∙◌, ap, refl, sym, subst, Some, true}
use Rattle.std.proofs.lemmas.Result.{IfOk-weaker}
use Rattle.xk_answers.specs.Explanation.{IsExplanation, accepted_said, refusal_said}
use Rattle.xk_program.specs.Origins.{Program}
use Rattle.xk_answers.proofs.VerdictLemmas.{refusal_explained, told_so}
use Rattle.xk_answers.proofs.verdict.verdict_on.Goals as goal

pub returns-in-Ok-acceptance-clause-done : goal.returns-in-Ok-acceptance-clause-done
returns-in-Ok-acceptance-clause-done c = λ kind args logged given hinted.
    let origins = c.args.reading.now.origins in
    let hints = c.args.reading.now.hints.items in
    let accepted = c.in-Ok.ensures.accepted in
    let said = c.in-Ok-acceptance.ensures ∙ ap (λ m. accepted_said c.args.json c.args.file.now c.args.bytes.now m hints origins) accepted.0 in
    (accepted.1, (hints, hinted, (origins, given, ap (λ said. (said, true)) said)))

pub returns-clause-said : goal.returns-clause-said
returns-clause-said c = λ kind given.
    let json = c.args.json in
    let file = c.args.file.now in
    let bytes = c.args.bytes.now in
    let p : Program = (c.args.m, c.args.reading.now.origins) in
    told_so (λ s. s.items) (IsExplanation json kind file bytes) c.from.result c.refusal_of_module-said.result c.told.result refl
    (IfOk-weaker c.refusal_of_module-said.result _ _
    (λ said h. subst (λ f. IsExplanation json kind file bytes f said.items) (sym c.from.ensures)
    (refusal_explained json kind file bytes said.items c.in-Err.refusal p given
    (h ∙ ap (λ m. refusal_said json file bytes c.in-Err.refusal (Some (m, p.1))) c.in-Err.ensures.refused.0))) c.refusal_of_module-said.ensures)
    c.told.ensures.told c.told.ensures.memory
