use Rattle.std.proofs.Common.{◌≡◌, drop}
use Rattle.xk_tree.specs.Tree.{statements}
use Rattle.xk_names.specs.FaultList.{least, among, after}
use Rattle.xk_names.proofs.statement_walk.+statements.Given as goal

abbrev pub invariant-check_block-loop-s : goal.invariant-check_block-loop-s
invariant-check_block-loop-s l = record {
  faults : least l.worst (among l.methods l.scope (statements (drop l.s-index l.ss))) ≡ least l.fn.worst (among l.methods l.fn.scope (statements l.ss));
  scope : after l.scope (statements (drop l.s-index l.ss)) ≡ after l.fn.scope (statements l.ss);
}
