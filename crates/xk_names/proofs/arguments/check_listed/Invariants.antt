use Rattle.std.proofs.Common.{◌≡◌, drop, map}
use Rattle.std.specs.List.{flat_map}
use Rattle.xk_tree.specs.Tree.{words}
use Rattle.xk_names.specs.declared.binding.Want.TheVariants as want
use Rattle.xk_names.specs.Uses.{use_as}
use Rattle.xk_names.specs.FaultList.{least, use_faults}
use Rattle.xk_names.proofs.arguments.check_listed.Given as goal

abbrev pub invariant-loop-name : goal.invariant-loop-name
invariant-loop-name l =
    least l.worst (flat_map (use_faults l.scope) (map (use_as want.Clock) (words (drop l.name-index l.names))))
    ≡ least l.fn.worst (flat_map (use_faults l.scope) (map (use_as want.Clock) (words l.names)))
