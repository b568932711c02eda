use Rattle.std.proofs.Common.{drop}
use Rattle.xk_tree.specs.Tree.{statements}
use Rattle.xk_emit.proofs.BackpatchLemmas.{AreEmitted}
use Rattle.xk_emit.proofs.statements.Emitter.+emit.Given as goal

-- what was emitted so far, and what the statements that are left need, are that of all
abbrev pub invariant-emit_all-loop-s : goal.invariant-emit_all-loop-s
invariant-emit_all-loop-s l =
    AreEmitted l.self.setting.now l.self.free (statements l.ss) l.initial.code.items l.initial.scope l.n (statements (drop l.s-index l.ss)) l.code.items l.scope l.next
