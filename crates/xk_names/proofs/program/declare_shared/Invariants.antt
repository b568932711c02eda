use Rattle.std.proofs.Common.{◌≡◌, [], drop, map}
use Rattle.xk_tree.specs.Tree.{shared_value}
use Rattle.xk_names.specs.Faults.{shared_declaration}
use Rattle.xk_names.specs.FaultList.{least, declared_again, with_declared}
use Rattle.xk_names.proofs.program.declare_shared.Given as goal

abbrev pub invariant-loop-number : goal.invariant-loop-number
invariant-loop-number l = record {
  faults : least l.worst (declared_again l.scope.names (map shared_declaration (map shared_value (drop l.number-index l.shared))))
      ≡ least l.fn.worst (declared_again l.fn.scope.names (map shared_declaration (map shared_value l.shared)));
  scope : with_declared l.scope (map shared_declaration (map shared_value (drop l.number-index l.shared))) ≡ with_declared l.fn.scope
      (map shared_declaration (map shared_value l.shared));
  outside : l.scope.bodies ≡ [];
}
