-- each place of the tables
use Rattle.std.proofs.Common.{subst}
use Rattle.xk_typestate.specs.KindTable.{AreKindTables}
use Rattle.xk_typestate.proofs.KindTableLemmas.{exact_at}
use Rattle.xk_typestate.proofs.module_kinds.kind_tables.Goals as goal

pub returns-clause-exact : goal.returns-clause-exact
returns-clause-exact c = λ unit at s k place.
    exact_at c.args.shaped.now c.in_ok-units.units.items (subst (λ x. AreKindTables x c.in_ok-units.units.items) c.module.ensures.same c.in_ok-units.ensures) unit at s k place
