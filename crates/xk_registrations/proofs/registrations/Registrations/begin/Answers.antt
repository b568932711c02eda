use Rattle.std.proofs.Common.{rules, ◌≡◌, List, subst}
use Rattle.xk_registrations.specs.View.{Registration}
use Rattle.xk_registrations.specs.RegistrationChanges.{OwesRegister, AreAllowed}
use Rattle.xk_registrations.proofs.registrations.Registrations.begin.Goals as goal

pub register_each-requires-clause-allowed : goal.register_each-requires-clause-allowed
register_each-requires-clause-allowed c =
    let same : c.args.self.now.list ≡ c.as_slice.result.now = search rules in
    subst (λ (l : List Registration). AreAllowed OwesRegister c.args.clocks.now.table.clocks l) same c.requires
