use Rattle.std.proofs.Common.{◌≡◌, ◌++◌, drop, map}
use Rattle.std.specs.List.{flat_map}
use Rattle.xk_tree.specs.Tree.{method_value}
use Rattle.xk_tree.specs.Program.{tree_value}
use Rattle.xk_source_semantics.specs.Parts.{method_parts, parts}
use Rattle.xk_numbering.specs.Views.{part}
use Rattle.xk_numbering.proofs.parts.parts.Given as goal

abbrev pub invariant-loop-method : goal.invariant-loop-method
invariant-loop-method l =
    map part l.found.items ++ flat_map method_parts (map method_value (drop l.method-index l.tree.methods.items)) ≡ parts (tree_value l.tree)
