use Rattle.std.proofs.Common.{◌≡◌, drop}
use Rattle.xk_tree.specs.Tree.{words}
use Rattle.xk_names.specs.FaultList.{least, repeats, put_texts}
use Rattle.xk_names.proofs.arguments.check_list.Given as goal

abbrev pub invariant-loop-name : goal.invariant-loop-name
invariant-loop-name l = record {
  faults : least l.worst (repeats l.clocks (words (drop l.name-index l.names))) ≡ least l.fn.worst (repeats l.fn.clocks (words l.names));
  clocks : put_texts l.clocks (words (drop l.name-index l.names)) ≡ put_texts l.fn.clocks (words l.names);
}
