use Rattle.std.proofs.Common.{◌∙◌, ap, subst}
use Rattle.xk_types.specs.Bound.{activities_bound}
use Rattle.xk_outcomes.specs.declared.all_outcomes.Limit.{Limit}
use Rattle.xk_outcomes.specs.Limits.{limit_of}
use Rattle.xk_answers.specs.Explanation.{Tale}
use Rattle.xk_answers.specs.Results.{IsOutcomePage}
use Rattle.xk_outcome_answers.proofs.outcome_page.paged.Goals as goal

pub outcome_page-requires : goal.outcome_page-requires
outcome_page-requires c = rw c.in_ok-verified.ensures.accepted.0 c.in_ok-verified.ensures.taken

pub returns-clause-done : goal.returns-clause-done
returns-clause-done c = λ form bytes logged given.
    let accepted = c.in_ok-verified.ensures.accepted in
    let args = c.args.arguments.now in
    let file = c.args.file.now in
    let tale = c.in_ok-tale.tale in
    let told : Tale = (tale.text.items, tale.whole) in
    let limit_is = c.of-limit.ensures ∙ ap (limit_of c.args.limit) c.activities.ensures in (
      accepted.1,
      subst (λ m. IsOutcomePage c.args.window (limit_of c.args.limit (activities_bound m)) c.args.pick form file bytes m args told) accepted.0
          (subst (λ (l : Limit). IsOutcomePage c.args.window l c.args.pick form file bytes c.in_ok-verified.verified args told) limit_is
          (c.in_ok-tale.ensures form bytes given)),
    )
