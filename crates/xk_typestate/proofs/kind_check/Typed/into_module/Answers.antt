use Rattle.std.proofs.Common.{subst}
use Rattle.xk_typestate.specs.LeastRefusal.{IsNeverRefused}
use Rattle.xk_typestate.proofs.kind_check.Typed.into_module.Goals as goal

pub returns-clause-kinds : goal.returns-clause-kinds
returns-clause-kinds c = subst IsNeverRefused c.self.view_is c.self.invariant.never
