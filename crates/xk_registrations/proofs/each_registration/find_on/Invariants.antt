use Rattle.std.proofs.Common.{◌≡◌, drop}
use Rattle.xk_registrations.specs.View.{reg_on}
use Rattle.xk_registrations.proofs.each_registration.find_on.Given as goal

-- those before aren't on the clock
abbrev pub invariant-loop-registration : goal.invariant-loop-registration
invariant-loop-registration l = reg_on (drop l.registration-index l.registrations) l.fn.clock ≡ reg_on l.registrations l.fn.clock
