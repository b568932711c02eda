use Rattle.std.proofs.Common.{◌<◌, length, sym, ap, ◌∙◌, subst, arith}
use Rattle.std.proofs.lemmas.List.{length_push}
use Rattle.xk_clocks.specs.Table.{TableValue}
use Rattle.xk_registrations.specs.RegistrationChanges.{ClocksValue}
use Rattle.xk_registrations.proofs.LastAdvanceLemmas.{made_noted}
use Rattle.xk_registrations.proofs.clocks.Clocks.make.Goals as goal

pub invariant_of-self : goal.invariant_of-self
invariant_of-self c =
    made_noted c.self.inside.table c.make-clock.new.self c.self.inside.lasts.items c.push_reserved.new.self.items _ _ c.self.inside.newest c.clock.inside.0
    c.self.inside.latest c.put_or_take.new.set c.self.invariant
    (subst (λ (v : ClocksValue). length v.table.clocks < v.table.room) (sym c.self.view_is) c.requires)
    (c.clock.view_is ∙ c.make-clock.ensures.number)
    (ap (λ (t : TableValue). length t.clocks) c.make-clock.ensures.made ∙ length_push c.self.inside.table.clocks _)
    (ap (λ (t : TableValue). t.room) c.make-clock.ensures.made)
    c.push_reserved.ensures.items
    (omega (arith, c.push_reserved.ensures.capacity))
    c.put_or_take.ensures.members c.put_or_take.ensures.room
