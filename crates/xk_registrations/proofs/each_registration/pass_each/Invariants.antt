use Rattle.std.proofs.Common.{◌≡◌, take, drop, ◌++◌}
use Rattle.xk_registrations.specs.RegistrationChanges.{regs_passed}
use Rattle.xk_registrations.proofs.each_registration.pass_each.Given as goal

-- a pass of those that are left leads to a pass of all
abbrev pub invariant-loop-i : goal.invariant-loop-i
invariant-loop-i l = take l.i l.registrations ++ regs_passed (drop l.i l.registrations) ≡ regs_passed l.initial.registrations
