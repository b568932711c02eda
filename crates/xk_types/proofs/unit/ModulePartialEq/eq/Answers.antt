use Rattle.std.proofs.Common.{rules}
use Rattle.xk_types.specs.Equality.{is_same_module}
use Rattle.xk_types.proofs.unit.ModulePartialEq.eq.Goals as goal

pub returns-then-eq-clause-same : goal.returns-then-eq-clause-same
returns-then-eq-clause-same c = is_same_module c.args.self.now c.args.other.now c.eq-then-eq.result (search rules)

pub returns-else-eq-clause-same : goal.returns-else-eq-clause-same
returns-else-eq-clause-same c = is_same_module c.args.self.now c.args.other.now c.eq.result (search rules)
