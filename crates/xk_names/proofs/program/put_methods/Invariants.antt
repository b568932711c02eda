use Rattle.std.proofs.Common.{◌≡◌, drop, map}
use Rattle.xk_tree.specs.Tree.{method_value}
use Rattle.xk_names.specs.FaultList.{least, methods_again, put_methods}
use Rattle.xk_names.proofs.program.put_methods.Given as goal

abbrev pub invariant-loop-method : goal.invariant-loop-method
invariant-loop-method l = record {
  faults : least l.worst (methods_again l.found (map method_value (drop l.method-index l.methods))) ≡ least l.fn.worst (methods_again l.fn.found (map method_value l.methods));
  methods : put_methods l.found (map method_value (drop l.method-index l.methods)) ≡ put_methods l.fn.found (map method_value l.methods);
}
