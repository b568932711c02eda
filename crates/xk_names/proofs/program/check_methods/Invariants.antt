use Rattle.std.proofs.Common.{◌≡◌, drop, map}
use Rattle.std.specs.List.{flat_map}
use Rattle.xk_tree.specs.Tree.{method_value}
use Rattle.xk_names.specs.FaultList.{least, method_faults}
use Rattle.xk_names.proofs.program.check_methods.Given as goal

abbrev pub invariant-loop-method : goal.invariant-loop-method
invariant-loop-method l = record {
  faults : least l.worst (flat_map (method_faults l.methods l.fn.scope.names) (map method_value (drop l.method-index l.all)))
      ≡ least l.fn.worst (flat_map (method_faults l.methods l.fn.scope.names) (map method_value l.all));
  scope : l.scope ≡ l.fn.scope;
}
