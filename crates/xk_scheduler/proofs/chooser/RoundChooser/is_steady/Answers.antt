use Rattle.std.proofs.Common.{sym, subst, ◌∙◌}
use Rattle.std.proofs.Common.{ℕ, Option}
use Rattle.xk_scheduler.specs.Choosers.{IsSteadyOn, turn_after}
use Rattle.xk_scheduler.proofs.ChooserAnswerLemmas.{alone_again}
use Rattle.xk_scheduler.proofs.chooser.RoundChooser.is_steady.Goals as goal

pub returns-in-Some : goal.returns-in-Some
returns-in-Some c =
    λ yes. subst (λ (o : Option ℕ). IsSteadyOn turn_after o c.args.enabled.now.members) (sym c.in-Some.is ∙ c.self.view_is)
    (alone_again c.in-Some.taken c.args.enabled.now.members (c.is_alone.ensures yes))
