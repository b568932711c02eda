-- What program a tree of the code is. It stands apart from its parts, since `Tree` keeps a fact on these. This project's own.
use Rattle.xk_tree.specs.declared.tree.Tree.{Tree}
use Rattle.xk_tree.specs.Tree.{TreeValue, program_value}

-- a program
abbrev pub tree_value : Tree → TreeValue
tree_value t = program_value t.shared.items t.methods.items
