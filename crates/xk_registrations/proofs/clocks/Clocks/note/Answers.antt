use Rattle.std.proofs.Common.{◌<◌, length, sym, subst, arith}
use Rattle.xk_registrations.specs.RegistrationChanges.{ClocksValue}
use Rattle.xk_registrations.proofs.LastAdvanceLemmas.{advance_noted}
use Rattle.xk_registrations.proofs.clocks.Clocks.note.Goals as goal

pub invariant_of-self : goal.invariant_of-self
invariant_of-self c =
    let inside : c.args.clock < length c.self.inside.lasts.items =
    subst (λ (v : ClocksValue). c.args.clock < length v.lasts) (sym c.self.view_is) c.requires in
    advance_noted c.self.inside.table c.self.inside.lasts.items _ c.self.inside.newest c.args.now c.turn_to-self-inside.result c.clock.inside.0
    c.self.inside.latest c.turn_to-self-inside.new.set c.put_or_take.new.set c.self.invariant
    (omega (arith, inside, c.clock.view_is)) c.turn_to-self-inside.ensures.newer c.turn_to-self-inside.ensures.members c.turn_to-self-inside.ensures.room
    c.put_or_take.ensures.members c.put_or_take.ensures.room
