use Rattle.std.proofs.Common.{◌≡◌, ℕ, drop}
use Rattle.xk_registrations.specs.RegistrationChanges.{calls, call_register, OwesRegister, AreAllowedInTurn}
use Rattle.xk_registrations.proofs.each_registration.register_each.Given as goal

-- what is still to be done leads from here to where all of it leads
abbrev pub invariant-loop-i : goal.invariant-loop-i
invariant-loop-i l = record {
  clocks : (now : ℕ) → calls now call_register (drop l.i l.registrations) l.clocks ≡ calls now call_register l.initial.registrations l.initial.clocks;
  allowed : AreAllowedInTurn OwesRegister call_register (drop l.i l.registrations) l.clocks.table.clocks;
}
