use Rattle.std.proofs.Common.{◌≡◌, drop}
use Rattle.xk_registrations.specs.RegistrationChanges.{concerns, calls, call_drop, regs_on, OwesDrop, AreAllowedInTurn}
use Rattle.xk_registrations.proofs.each_registration.drop_each.Given as goal

-- what is still to be done leads from here to where all of it leads
abbrev pub invariant-loop-i : goal.invariant-loop-i
invariant-loop-i l = record {
  clocks : calls l.now call_drop (regs_on (concerns l.which) (drop l.i l.registrations)) l.clocks
      ≡ calls l.now call_drop (regs_on (concerns l.which) l.initial.registrations) l.initial.clocks;
  allowed : AreAllowedInTurn OwesDrop call_drop (regs_on (concerns l.which) (drop l.i l.registrations)) l.clocks.table.clocks;
}
