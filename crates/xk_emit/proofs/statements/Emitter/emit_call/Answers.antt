use Rattle.std.proofs.Common.{length, ap, arith}
use Rattle.std.proofs.lemmas.Result.{err_from_is_err_and}
use Rattle.xk_types.specs.declared.instr.Instr.TheVariants as instr
use Rattle.xk_tree.specs.Tree.{expressions, word}
use Rattle.xk_emit.specs.CodeOf.{argument_slots, eval_all, number_of}
use Rattle.xk_emit.proofs.CodeErrorLemmas.{denies, few_arguments}
use Rattle.xk_emit.proofs.RoomLemmas.{room_first}
use Rattle.xk_emit.proofs.statements.Emitter.emit_call.Goals as goal

pub returns-in_err-slots-clause-refused : goal.returns-in_err-slots-clause-refused
returns-in_err-slots-clause-refused c =
    let p = err_from_is_err_and c.from_residual.result c.from_residual.ensures.1 in
    rw (p.1, p.2) (denies c.in_err-slots.field-0.0 c.in_err-slots.ensures.refused (λ k. k.1) (λ m. room_first c.args.scope.now (length c.args.code.now.items) _ _ m))

pub returns-in_err-args-clause-refused : goal.returns-in_err-args-clause-refused
returns-in_err-args-clause-refused c =
    let p = err_from_is_err_and c.from_residual-in_err-args.result c.from_residual-in_err-args.ensures.1 in
    let scope = c.args.scope.now in
    let t = c.args.self.now.free in
    let es = expressions c.args.es.now in
    let long = ap length c.in_ok-slots.ensures.slots in
    rw (p.1, p.2) (denies c.in_err-args.field-0.0 c.in_err-args.ensures.refused (λ k. tt) (λ m.
    let few = few_arguments scope (length c.args.code.now.items) (eval_all scope t es)
    (instr.Call (number_of c.args.self.now.setting.now.methods (word c.args.f)) (argument_slots scope t es)) m in
    omega arith))
