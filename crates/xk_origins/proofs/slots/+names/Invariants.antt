use Rattle.std.proofs.Common.{◌≡◌, ◌++◌, drop, map}
use Rattle.xk_tree.specs.Tree.{statements}
use Rattle.xk_origins.specs.UnitOrigins.{names_all}
use Rattle.xk_origins.proofs.slots.+names.Given as goal

-- the names so far and those of the statements that are left are those of all
abbrev pub invariant-add_all_names-loop-s : goal.invariant-add_all_names-loop-s
invariant-add_all_names-loop-s l =
    map (λ y. y.now) l.found.items ++ names_all (statements (drop l.s-index l.ss)) ≡ map (λ y. y.now) l.fn.found.items ++ names_all (statements l.ss)
