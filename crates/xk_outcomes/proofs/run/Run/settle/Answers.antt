use Rattle.std.proofs.Common.{◌≡◌, ◌∙◌, ◌≤◌, ap, refl, subst, sym}
use Rattle.xk_types.specs.Bound.{steps_bound}
use Rattle.xk_outcomes.specs.declared.run.Run.{Run}
use Rattle.xk_outcomes.specs.Found.{least_private}
use Rattle.xk_outcomes.proofs.FoundLemmas.{settled_all}
use Rattle.xk_outcomes.proofs.run.Run.settle.Goals as goal

pub loop-turn-init : goal.loop-turn-init
loop-turn-init c = record { to = refl; leads = λ start f. f }

pub returns-in-None-clause-to : goal.returns-in-None-clause-to
returns-in-None-clause-to c =
    let first = c.args.self.now.to in
    let bound : c.steps-most.result ≡ steps_bound first.core.module_run =
    c.steps-most.ensures ∙ ap steps_bound c.module.ensures.same ∙ ap (λ (r : Run). steps_bound r.to.core.module_run) c.self.view_is in
    settled_all first c.loop-turn.self.to c.loop-turn.turn (steps_bound first.core.module_run) (subst (λ n. c.loop-turn.turn ≤ n) bound c.loop-turn.auto.turn-end)
    c.loop-turn.invariant.to (ap (λ (r : Run). least_private r.to.core) (sym c.self-in-loop-turn.view_is) ∙ sym c.private_act.ensures ∙ c.in-None.is)
