use Rattle.std.proofs.Common.{◌≡◌, ◌++◌, drop, map}
use Rattle.xk_tree.specs.Tree.{words}
use Rattle.xk_names.specs.Scope.{texts}
use Rattle.xk_emit.proofs.units.texts.Given as goal

-- the texts so far and those of the names that are left are those of all
abbrev pub invariant-loop-name : goal.invariant-loop-name
invariant-loop-name l = map (λ x. x.now) l.found.items ++ texts (words (drop l.name-index l.names)) ≡ texts (words l.names)
