use Rattle.std.proofs.Common.{◌∙◌, ap, arith}
use Rattle.xk_names.specs.Scope.{Scope}
use Rattle.xk_names.proofs.StatementSequenceLemmas.{methods_turn}
use Rattle.xk_names.proofs.program.check_methods.Goals as goal

pub loop-method-preserved : goal.loop-method-preserved
loop-method-preserved c = record {
  faults = methods_turn c.args.methods.now c.args.scope.now.names c.loop-method.scope.names c.args.all.now c.loop-method.method-index c.method-item.result c.loop-method.worst c.check_method.new.worst
      (omega arith) c.method-item.is (ap (λ (k : Scope). k.names) c.loop-method.invariant.scope) c.in_ok-check_method.ensures.faults ∙ c.loop-method.invariant.faults;
  scope = c.in_ok-check_method.ensures.scope ∙ c.loop-method.invariant.scope;
}
