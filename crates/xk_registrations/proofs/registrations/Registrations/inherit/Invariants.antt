use Rattle.std.proofs.Common.{◌≤◌, take}
use Rattle.xk_types.specs.Step.{is_given}
use Rattle.xk_registrations.specs.RegistrationChanges.{IsGiven}
use Rattle.xk_registrations.proofs.registrations.Registrations.inherit.Given as goal

-- what the values so far hand on
abbrev pub invariant-loop-value : goal.invariant-loop-value
invariant-loop-value l = record {
  given : IsGiven (is_given (take l.value-index l.values)) l.self.list l.child.list;
  room : l.fn.room ≤ l.child.room;
}
