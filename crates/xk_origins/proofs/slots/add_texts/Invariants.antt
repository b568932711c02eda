use Rattle.std.proofs.Common.{◌≡◌, ◌++◌, drop, map}
use Rattle.xk_tree.specs.Tree.{words}
use Rattle.xk_names.specs.Scope.{texts}
use Rattle.xk_origins.proofs.slots.add_texts.Given as goal

-- the names so far and those that are left are those of all
abbrev pub invariant-loop-x : goal.invariant-loop-x
invariant-loop-x l =
    map (λ y. y.now) l.found.items ++ texts (words (drop l.x-index l.list)) ≡ map (λ y. y.now) l.fn.found.items ++ texts (words l.list)
