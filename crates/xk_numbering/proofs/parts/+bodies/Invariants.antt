use Rattle.std.proofs.Common.{◌≡◌, ◌++◌, drop, map}
use Rattle.xk_tree.specs.Tree.{statements}
use Rattle.xk_source_semantics.specs.Parts.{bodies_all}
use Rattle.xk_numbering.specs.Views.{part}
use Rattle.xk_numbering.proofs.parts.+bodies.Given as goal

-- the bodies found so far and those of the statements that are left are those of all
abbrev pub invariant-add_bodies_all-loop-s : goal.invariant-add_bodies_all-loop-s
invariant-add_bodies_all-loop-s l = map part l.found.items ++ bodies_all (statements (drop l.s-index l.ss)) ≡ map part l.fn.found.items ++ bodies_all (statements l.ss)
