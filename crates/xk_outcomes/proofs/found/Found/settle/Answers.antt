use Rattle.std.proofs.Common.{◌≡◌, ◌∙◌, ◌≤◌, ap, subst, sym}
use Rattle.xk_types.specs.Bound.{steps_bound}
use Rattle.xk_outcomes.specs.Found.{FoundValue, least_private}
use Rattle.xk_outcomes.proofs.FoundLemmas.{settled_all}
use Rattle.xk_outcomes.proofs.found.Found.settle.Goals as goal

pub returns-in-None : goal.returns-in-None
returns-in-None c =
    let first = c.args.self.now in
    let bound : c.steps-most.result ≡ steps_bound first.core.module_run =
    c.steps-most.ensures ∙ ap steps_bound c.module.ensures.same ∙ ap (λ (x : FoundValue). steps_bound x.core.module_run) c.self.view_is in
    settled_all first c.loop-turn.self c.loop-turn.turn (steps_bound first.core.module_run) (subst (λ n. c.loop-turn.turn ≤ n) bound c.loop-turn.auto.turn-end)
    c.loop-turn.invariant (ap (λ (x : FoundValue). least_private x.core) (sym c.self-in-loop-turn.view_is)
    ∙ sym c.private_act.ensures ∙ c.in-None.is)
