use Rattle.std.proofs.Common.{None}
use Rattle.xk_registrations.proofs.RegistrationListLemmas.{marked_distinct}
use Rattle.xk_registrations.proofs.registrations.Registrations.pass.Goals as goal

pub invariant_of-self : goal.invariant_of-self
invariant_of-self c =
    marked_distinct c.self.inside.list c.pass_each.new.registrations c.as_mut_slice.result.now (λ k m. None) c.as_mut_slice.ensures.value c.pass_each.ensures c.self.invariant
