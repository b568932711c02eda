use Rattle.std.proofs.Common.{◌≡◌, [], drop}
use Rattle.xk_tree.specs.Tree.{words}
use Rattle.xk_names.specs.FaultList.{put_texts}
use Rattle.xk_names.proofs.arguments.clocks_of.Given as goal

abbrev pub invariant-loop-name : goal.invariant-loop-name
invariant-loop-name l = put_texts l.clocks (words (drop l.name-index l.names)) ≡ put_texts [] (words l.names)
