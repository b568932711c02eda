use Rattle.std.proofs.Common.{◌≡◌, ◌++◌, length, drop}
use Rattle.xk_tree.specs.Tree.{expressions}
use Rattle.xk_emit.specs.CodeOf.{argument_slots, eval_all}
use Rattle.xk_emit.specs.Room.{HasRoom}
use Rattle.xk_emit.proofs.expressions.emit_args.Given as goal

-- What was emitted so far, and what the arguments that are left need, are that of all. If there is room for all, there is for those.
abbrev pub invariant-loop-arg : goal.invariant-loop-arg
invariant-loop-arg l = record {
  code : l.code.items ++ eval_all l.scope l.next (expressions (drop l.arg-index l.args)) ≡ l.initial.code.items ++ eval_all l.scope l.t (expressions l.args);
  slots : l.slots.items ++ argument_slots l.scope l.next (expressions (drop l.arg-index l.args)) ≡ argument_slots l.scope l.t (expressions l.args);
  room : HasRoom l.scope (length l.initial.code.items) (eval_all l.scope l.t (expressions l.args))
      → HasRoom l.scope (length l.code.items) (eval_all l.scope l.next (expressions (drop l.arg-index l.args)));
}
