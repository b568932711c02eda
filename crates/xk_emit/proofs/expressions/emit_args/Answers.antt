use Rattle.std.proofs.Common.{length, ap, ◌∙◌, arith, length-append, sym}
use Rattle.std.proofs.lemmas.Grind.{common_steps}
use Rattle.std.proofs.lemmas.Result.{err_from_is_err_and}
use Rattle.xk_tree.specs.Tree.{expression}
use Rattle.xk_emit.specs.CodeOf.{eval}
use Rattle.xk_emit.specs.NameCoverage.{IsKnown}
use Rattle.xk_emit.proofs.CodeErrorLemmas.{all_at, args_split, args_turn, denies}
use Rattle.xk_emit.proofs.RoomLemmas.{room_first, temporary_written}
use Rattle.xk_emit.proofs.expressions.emit_args.Goals as goal

pub loop-arg-preserved : goal.loop-arg-preserved
loop-arg-preserved c = record {
  code = grind (arith, common_steps);
  slots = grind (arith, common_steps);
  room = λ m. args_turn c.args.scope.now (length c.loop-arg.code.items) _ c.loop-arg.next _ _ c.args.args.now c.loop-arg.arg-index c.arg-item.result
      (omega arith) c.arg-item.is (ap length c.in_ok-x.ensures.code ∙ length-append c.loop-arg.code.items (eval c.args.scope.now c.loop-arg.next (expression c.arg-item.result)))
      c.in_ok-x.ensures.slot c.in_ok-next.ensures.next (c.loop-arg.invariant.room m);
}

pub returns-in_err-x-clause-refused : goal.returns-in_err-x-clause-refused
returns-in_err-x-clause-refused c =
    let p = err_from_is_err_and c.from_residual.result c.from_residual.ensures.1 in
    let item = c.arg-item.result in
    let size = length c.loop-arg.code.items in
    rw (p.1, p.2) (denies c.in_err-x.field-0.0 c.in_err-x.ensures.refused
    (λ k. all_at (IsKnown c.args.scope.now) expression c.args.args.now c.loop-arg.arg-index item k (omega arith) c.arg-item.is)
    (λ m. room_first c.args.scope.now size _ _
    (args_split c.args.scope.now size c.loop-arg.next c.args.args.now c.loop-arg.arg-index item (omega arith) c.arg-item.is (c.loop-arg.invariant.room m))))

pub returns-in_err-next-clause-refused : goal.returns-in_err-next-clause-refused
returns-in_err-next-clause-refused c =
    let p = err_from_is_err_and c.from_residual-in_err-next.result c.from_residual-in_err-next.ensures.1 in
    let item = c.arg-item.result in
    let size = length c.loop-arg.code.items in
    rw (p.1, p.2) (denies c.in_err-next.field-0.0 c.in_err-next.ensures.refused (λ k. tt) (λ m same.
    let r = room_first c.args.scope.now size (eval c.args.scope.now c.loop-arg.next (expression item)) _
    (args_split c.args.scope.now size c.loop-arg.next c.args.args.now c.loop-arg.arg-index item (omega arith) c.arg-item.is (c.loop-arg.invariant.room m)) in
    let few = r.slots in
    let written = temporary_written c.args.scope.now c.loop-arg.next (expression item) r.low (sym c.in_ok-x.ensures.slot ∙ same) in
    omega arith))
