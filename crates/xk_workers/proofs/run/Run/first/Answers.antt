use Rattle.std.proofs.Common.{◌≡◌, true, sym, subst, ◌∙◌}
use Rattle.xk_types.specs.Schedule.{all_ended}
use Rattle.xk_workers.specs.Run.{RunValue}
use Rattle.xk_workers.proofs.RunLemmas.{over_fresh, over_going}
use Rattle.xk_workers.proofs.run.Run.first.Goals as goal

pub returns-else-enabled-clause-over : goal.returns-else-enabled-clause-over
returns-else-enabled-clause-over c = λ none. subst (λ (r : RunValue). all_ended r.core.world ≡ true) c.self.view_is
    (over_fresh c.self.inside.stage c.in-Fresh.core c.in-Fresh.is c.self.invariant.0 c.self.invariant.1 (sym c.enabled.ensures ∙ c.if-enabled.false))

pub returns-in-Going-clause-over : goal.returns-in-Going-clause-over
returns-in-Going-clause-over c = λ none. subst (λ (r : RunValue). all_ended r.core.world ≡ true) c.self.view_is
    (over_going c.self.inside.stage c.in-Going.logged c.first.result c.in-Going.is c.self.invariant.1 c.first.ensures none)
