use Rattle.std.proofs.Common.{◌≡◌, take}
use Rattle.xk_registrations.proofs.registrations.Registrations.copy.Given as goal

-- those passed were copied
abbrev pub invariant-loop-registration : goal.invariant-loop-registration
invariant-loop-registration l = (l.list.items ≡ take l.registration-index l.self.list) × (l.list.capacity ≡ l.self.room)
