use Rattle.std.proofs.Common.{◌≡◌, ◌+◌, drop}
use Rattle.xk_tree.specs.Tree.{statements}
use Rattle.xk_emit.specs.CodeOf.{count_all}
use Rattle.xk_emit.proofs.statements.+slots.Given as goal

-- the slot so far and the slots of the statements that are left come to those of all
abbrev pub invariant-slots_behind_all-loop-s : goal.invariant-slots_behind_all-loop-s
invariant-slots_behind_all-loop-s l = l.next + count_all (statements (drop l.s-index l.ss)) ≡ l.n + count_all (statements l.ss)
