use Rattle.std.proofs.Common.{◌≡◌, drop}
use Rattle.std.specs.List.{find}
use Rattle.xk_registrations.specs.RegistrationChanges.{is_signalled_in}
use Rattle.xk_registrations.proofs.each_registration.find_signalled.Given as goal

-- none of those before does
abbrev pub invariant-loop-i : goal.invariant-loop-i
invariant-loop-i l =
    find (is_signalled_in l.clocks.table.clocks) (drop l.i l.registrations) ≡ find (is_signalled_in l.clocks.table.clocks) l.registrations
