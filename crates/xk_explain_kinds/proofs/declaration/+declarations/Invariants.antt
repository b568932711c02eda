use Rattle.std.proofs.Common.{◌≡◌, ◌++◌, drop}
use Rattle.xk_tree.specs.Tree.{statements}
use Rattle.xk_explain_kinds.specs.Declarations.{declarations_all, declared_here}
use Rattle.xk_explain_kinds.proofs.declaration.+declarations.Given as goal

-- what was added so far and the declarations of the statements that are left are those of all
abbrev pub invariant-add_all_declarations-loop-s : goal.invariant-add_all_declarations-loop-s
invariant-add_all_declarations-loop-s l =
    declared_here l.found.items ++ declarations_all l.until (statements (drop l.s-index l.ss)) ≡ declared_here l.fn.found.items ++ declarations_all l.until (statements l.ss)
