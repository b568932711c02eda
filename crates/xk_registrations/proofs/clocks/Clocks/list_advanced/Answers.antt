use Rattle.std.proofs.Common.{◌≡◌, ◌<◌, ◌≤◌, length, sym, ◌∙◌, subst, arith}
use Rattle.std.specs.Vec.{vec_capacity}
use Rattle.xk_registrations.specs.RegistrationChanges.{ClocksValue, noted_in}
use Rattle.xk_registrations.proofs.LastAdvanceLemmas.{latest_few, noted_none}
use Rattle.xk_registrations.proofs.clocks.Clocks.list_advanced.Goals as goal

pub list-requires : goal.list-requires
list-requires c =
    let roomy : length c.self.inside.lasts.items ≤ vec_capacity c.args.list.now =
    subst (λ (v : ClocksValue). length v.lasts ≤ vec_capacity c.args.list.now) (sym c.self.view_is) c.requires in
    omega (arith, roomy, latest_few _ _ _ _ _ c.self.invariant)

pub returns-else-step-self-2-clause-items : goal.returns-else-step-self-2-clause-items
returns-else-step-self-2-clause-items c =
    let behind : c.self.inside.newest < c.args.step = omega (arith, c.if-step-self.false, c.if-step-self-2.false) in
    subst (λ (v : ClocksValue). c.clear.new.self.items ≡ noted_in v.lasts c.args.step) c.self.view_is
    (c.clear.ensures.items ∙ sym (noted_none c.self.inside.lasts.items c.self.inside.newest c.args.step c.self.invariant.newest_is behind))
