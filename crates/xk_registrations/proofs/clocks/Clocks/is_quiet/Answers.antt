use Rattle.std.proofs.Common.{◌≡◌, ◌==◌, true, not, ap, ◌∙◌, sym, subst, arith}
use Rattle.std.specs.List.{list_all}
use Rattle.xk_registrations.specs.RegistrationChanges.{ClocksValue, noted_in}
use Rattle.xk_registrations.proofs.RegistrationListLemmas.{quiet_behind}
use Rattle.xk_registrations.proofs.LastAdvanceLemmas.{quiet_noted}
use Rattle.xk_registrations.proofs.clocks.Clocks.is_quiet.Goals as goal

pub returns-then-step-self : goal.returns-then-step-self
returns-then-step-self c =
    subst (λ (v : ClocksValue). true ≡ list_all (λ last. not (last == c.args.step)) v.lasts) c.self.view_is
    (quiet_behind c.self.inside.lasts.items c.self.inside.newest c.args.step c.self.invariant.newest_is (omega (arith, c.if-step-self.true)))

pub returns-then-step-self-2 : goal.returns-then-step-self-2
returns-then-step-self-2 c =
    subst (λ (v : ClocksValue). c.is_empty.result ≡ list_all (λ last. not (last == c.args.step)) v.lasts) c.self.view_is
    (c.is_empty.ensures
    ∙ quiet_noted c.self.inside.lasts.items c.args.step c.self.inside.latest.members
    (c.self.invariant.latest_is ∙ ap (noted_in c.self.inside.lasts.items) (sym c.if-step-self-2.true)))
