use Rattle.std.proofs.Common.{◌≡◌, [], drop, map}
use Rattle.xk_tree.specs.Tree.{param_value}
use Rattle.xk_names.specs.Faults.{param_declaration}
use Rattle.xk_names.specs.FaultList.{least, declared_again, with_declared}
use Rattle.xk_names.proofs.program.declare_params.Given as goal

abbrev pub invariant-loop-param : goal.invariant-loop-param
invariant-loop-param l = record {
  faults : least l.worst (declared_again l.scope.names (map param_declaration (map param_value (drop l.param-index l.params))))
      ≡ least l.fn.worst (declared_again l.fn.scope.names (map param_declaration (map param_value l.params)));
  scope : with_declared l.scope (map param_declaration (map param_value (drop l.param-index l.params))) ≡ with_declared l.fn.scope
      (map param_declaration (map param_value l.params));
  outside : l.scope.bodies ≡ [];
}
