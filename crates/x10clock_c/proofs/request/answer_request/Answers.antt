use Rattle.std.proofs.Common.{◌∙◌, ap, inl, inr, option_map, sym}
use Rattle.std.proofs.lemmas.Result.{IfOk-weaker}
use Rattle.x10clock_c.proofs.request.answer_request.Goals as goal

pub returns-in-Some : goal.returns-in-Some
returns-in-Some c =
    IfOk-weaker c.answer_page.result _ _
    (λ a h. inl (c.in-Some.page.now, sym c.rule_page.ensures ∙ ap (λ o. option_map (λ page. page.now) o) c.in-Some.is, h))
    c.answer_page.ensures

pub returns-in-None : goal.returns-in-None
returns-in-None c =
    IfOk-weaker c.answer_asked.result _ _
    (λ a h. inr (sym c.rule_page.ensures ∙ ap (λ o. option_map (λ page. page.now) o) c.in-None.is, h))
    c.answer_asked.ensures
