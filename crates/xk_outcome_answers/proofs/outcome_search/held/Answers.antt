use Rattle.std.proofs.Common.{◌∙◌, ap, subst}
use Rattle.std.proofs.lemmas.Result.{IfOk-weaker}
use Rattle.xk_types.specs.Bound.{activities_bound}
use Rattle.xk_outcomes.specs.declared.all_outcomes.Limit.{Limit}
use Rattle.xk_outcomes.specs.Limits.{limit_of}
use Rattle.xk_answers.specs.Results.{IsHeldOut}
use Rattle.xk_answers.proofs.LogLemmas.{list_stands, some_each}
use Rattle.xk_outcome_answers.proofs.outcome_search.held.Goals as goal

pub returns-clause-done : goal.returns-clause-done
returns-clause-done g c =
    let accepted = c.in_ok-verified.ensures.accepted in
    let args = c.args.arguments.now in
    let sets = c.args.sets in
    let limit_is = c.of-limit.ensures ∙ ap (limit_of c.args.limit) c.activities.ensures in
    IfOk-weaker c.held_by.result _ _
    (λ d h. some_each _ _ (g.L.Source.remaining c.args.source.now)
    (λ bytes held. (
      accepted.1,
      subst (λ m. IsHeldOut m args sets (limit_of c.args.limit (activities_bound m)) bytes d) accepted.0
          (subst (λ (l : Limit). IsHeldOut c.in_ok-verified.verified args sets l bytes d) limit_is held),
    )) h)
    c.held_by.ensures.done

pub returns-clause-fault : goal.returns-clause-fault
returns-clause-fault g c =
    list_stands _ _ (g.L.Source.remaining c.args.source.now) _ _ c.held_by.result c.in_ok-verified.ensures.accepted.1 c.in_ok-verified.ensures.taken c.held_by.ensures.fault
