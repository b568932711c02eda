use Rattle.std.proofs.Common.{◌≡◌, ◌∙◌, ◌++◌, ◌∷◌, [], ℕ, List, true, ap, subst, sym}
use Rattle.xk_types.specs.Schedule.{is_enabled}
use Rattle.xk_outcomes.specs.Search.{IsFoundBy}
use Rattle.xk_outcomes.proofs.FoundLemmas.{found_taken}
use Rattle.xk_outcomes.proofs.run.Run.step.Goals as goal

pub returns-clause-leads : goal.returns-clause-leads
returns-clause-leads c start f =
    let x = c.args.self.now.to in
    let old = c.args.self.now.schedule.items in
    let enabled : is_enabled x.core.module_run x.core.world c.args.act ≡ true = sym c.in_ok-taken.ensures.taken ∙ c.if-not-taken.false in
    let more = c.in_ok-push.ensures.items ∙ ap (λ (a : ℕ). old ++ a ∷ []) c.act.view_is in
    subst (λ (s : List ℕ). IsFoundBy start s c.step.new.self) (sym more)
    (subst (IsFoundBy start (old ++ c.args.act ∷ [])) (sym c.in_ok-taken.ensures.more) (found_taken start old x c.args.act f enabled))
