-- Programs whose calls never lead back. This project's own.
use Rattle.xk_tree.specs.declared.fault.FrontFault.{FrontFault}
use Rattle.xk_tree.specs.Tree.{TreeValue}
use Rattle.xk_callgraph.specs.Recursion.{HasRecursion}

-- no recursive call, F10
abbrev pub IsFalling : TreeValue → Type 0
IsFalling t = (g : FrontFault) → HasRecursion t g → ⊥
