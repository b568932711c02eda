use Rattle.std.proofs.Common.{◌∙◌, ap, subst}
use Rattle.std.proofs.lemmas.Result.{IfOk-weaker}
use Rattle.xk_types.specs.Bound.{activities_bound}
use Rattle.xk_outcomes.specs.declared.all_outcomes.Limit.{Limit}
use Rattle.xk_outcomes.specs.Limits.{limit_of}
use Rattle.xk_answers.specs.Results.{IsHeldTold}
use Rattle.xk_answers.proofs.LogLemmas.{list_stands, some_each}
use Rattle.xk_serve.proofs.values.held_shown.Goals as goal

pub returns-clause-done : goal.returns-clause-done
returns-clause-done g c =
    let accepted = c.in_ok-verified.ensures.accepted in
    let args = c.args.arguments.now in
    let sets = c.args.sets in
    let limit_is = c.of-limit.ensures ∙ ap (limit_of c.args.limit) c.activities.ensures in
    IfOk-weaker c.held_told.result _ _
    (λ d h. some_each _ _ (g.L.Source.remaining c.args.source.now)
    (λ bytes held. (
      accepted.1,
      subst (λ m. IsHeldTold m args sets (limit_of c.args.limit (activities_bound m)) bytes d) accepted.0
          (subst (λ (l : Limit). IsHeldTold c.in_ok-verified.verified args sets l bytes d) limit_is held),
    )) h)
    c.held_told.ensures.done

pub returns-clause-fault : goal.returns-clause-fault
returns-clause-fault g c =
    let is = c.in_ok-verified.ensures in
    list_stands _ _ (g.L.Source.remaining c.args.source.now) _ _ c.held_told.result is.accepted.1 is.taken c.held_told.ensures.fault
