use Rattle.std.proofs.Common.{rules, ◌≡◌, List, cond, subst}
use Rattle.xk_registrations.specs.View.{Registration}
use Rattle.xk_registrations.specs.RegistrationChanges.{concerns, regs_open, mark_resumed, phase_at, OwesResume, AreAllowed}
use Rattle.xk_registrations.proofs.RegistrationListLemmas.{marked_distinct}
use Rattle.xk_registrations.proofs.registrations.Registrations.resume.Goals as goal

pub resume_each-requires-clause-allowed : goal.resume_each-requires-clause-allowed
resume_each-requires-clause-allowed c =
    let same : c.args.self.now.list ≡ c.as_mut_slice.result.now = search rules in
    subst (λ (l : List Registration). AreAllowed OwesResume c.args.clocks.now.table.clocks (regs_open (concerns c.args.which) l)) same c.requires

pub invariant_of-self : goal.invariant_of-self
invariant_of-self c =
    marked_distinct c.self.inside.list c.resume_each.new.registrations c.as_mut_slice.result.now
    (λ k m. cond (concerns c.args.which k) (mark_resumed (phase_at c.args.clocks.now.table.clocks k) m) m)
    c.as_mut_slice.ensures.value c.resume_each.ensures.registrations c.self.invariant
