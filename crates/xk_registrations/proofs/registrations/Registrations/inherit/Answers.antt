use Rattle.std.proofs.Common.{rules, ◌≡◌, arith}
use Rattle.xk_registrations.specs.RegistrationChanges.{with_taken}
use Rattle.xk_registrations.proofs.InheritanceLemmas.{more_given}
use Rattle.xk_registrations.proofs.registrations.Registrations.inherit.Goals as goal

pub loop-value-preserved : goal.loop-value-preserved
loop-value-preserved c =
    let taken : c.take_on.new.self.list ≡ with_taken c.args.self.now.list c.value-item.result c.loop-value.child.list = search rules in
    record {
      given = rw taken (more_given c.args.self.now.list c.loop-value.child.list c.args.values.now c.loop-value.value-index c.value-item.result
          c.loop-value-test.true c.value-item.is c.loop-value.invariant.given);
      room = omega (arith, c.loop-value.invariant.room, c.take_on.ensures.room);
    }
