use Rattle.std.proofs.Common.{rules, ◌≡◌, not, List, sym, subst}
use Rattle.xk_registrations.specs.View.{Registration, AreDistinct}
use Rattle.xk_registrations.specs.RegistrationChanges.{concerns, regs_on, others, OwesDrop, AreAllowed}
use Rattle.xk_registrations.proofs.StandingLemmas.{distinct_where}
use Rattle.xk_registrations.proofs.RegistrationListLemmas.{where-from_retain}
use Rattle.xk_registrations.proofs.registrations.Registrations.drop.Goals as goal

pub drop_each-requires-clause-allowed : goal.drop_each-requires-clause-allowed
drop_each-requires-clause-allowed c =
    let same : c.args.self.now.list ≡ c.as_slice.result.now = search rules in
    subst (λ (l : List Registration). AreAllowed OwesDrop c.args.clocks.now.table.clocks (regs_on (concerns c.args.which) l)) same c.requires

pub invariant_of-self : goal.invariant_of-self
invariant_of-self c =
    let left : c.retain.new.self.items ≡ others c.args.which c.self.inside.list.items =
    where-from_retain _ (λ (r : Registration). not (concerns c.args.which r.clock)) _ (λ x b f' y called. search rules) _ _ c.retain.ensures.filtered in
    subst AreDistinct (sym left) (distinct_where (λ r. not (concerns c.args.which r.clock)) c.self.inside.list.items c.self.invariant)

pub returns-clause-registrations : goal.returns-clause-registrations
returns-clause-registrations c =
    let left : c.retain.new.self.items ≡ others c.args.which c.self.inside.list.items =
    where-from_retain _ (λ (r : Registration). not (concerns c.args.which r.clock)) _ (λ x b f' y called. search rules) _ _ c.retain.ensures.filtered in
    search (rules, left)
