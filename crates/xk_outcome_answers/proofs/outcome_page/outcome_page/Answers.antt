use Rattle.std.proofs.Common.{Some, None, option_map, subst}
use Rattle.std.proofs.lemmas.Result.{IfOk-weaker}
use Rattle.xk_answers.specs.Results.{IsPicked}
use Rattle.xk_outcome_answers.proofs.outcome_page.outcome_page.Goals as goal

pub returns-in-Some : goal.returns-in-Some
returns-in-Some c = λ form bytes given.
    let p = c.in_ok-picked.picked in
    let m = c.args.verified.now in
    let args = c.args.arguments.now in
    let found = subst (λ o. IsPicked m args c.args.limit c.args.pick p.count p.complete (option_map (λ es. es.items) o)) c.in-Some.is
    c.in_ok-picked.ensures in
    let told_by = rw c.in-Some.is at (c.page_by_log.ensures form bytes given) in
    IfOk-weaker c.page_by_log.result _ _ (λ tale h. (p.count, p.complete, Some c.in-Some.log.items, found, h)) told_by

pub returns-in-None : goal.returns-in-None
returns-in-None c = λ form bytes given.
    let p = c.in_ok-picked.picked in
    let m = c.args.verified.now in
    let args = c.args.arguments.now in
    let found = subst (λ o. IsPicked m args c.args.limit c.args.pick p.count p.complete (option_map (λ es. es.items) o)) c.in-None.is
    c.in_ok-picked.ensures in
    IfOk-weaker c.none_told.result _ _ (λ tale h. (p.count, p.complete, None, found, h)) c.none_told.ensures
