use Rattle.std.proofs.Common.{length, ap, ◌∙◌, length-append}
use Rattle.std.proofs.lemmas.Result.{err_from_is_err_and}
use Rattle.xk_tree.specs.Tree.{expression}
use Rattle.xk_emit.specs.CodeOf.{eval}
use Rattle.xk_emit.proofs.CodeErrorLemmas.{both_first, both_between, both_second}
use Rattle.xk_emit.proofs.expressions.emit_both.Goals as goal

pub returns-in_err-x-clause-refused : goal.returns-in_err-x-clause-refused
returns-in_err-x-clause-refused c =
    let p = err_from_is_err_and c.from_residual.result c.from_residual.ensures.1 in
    rw (p.1, p.2) (both_first c.in_err-x.field-0.0 c.args.scope.now (length c.args.code.now.items) c.args.t (expression c.args.l.now) (expression c.args.r.now)
    c.in_err-x.ensures.refused)

pub returns-in_err-free-clause-refused : goal.returns-in_err-free-clause-refused
returns-in_err-free-clause-refused c =
    let p = err_from_is_err_and c.from_residual-in_err-free.result c.from_residual-in_err-free.ensures.1 in
    rw (p.1, p.2) (both_between c.in_err-free.field-0.0 c.args.scope.now (length c.args.code.now.items) c.args.t _ (expression c.args.l.now) (expression c.args.r.now)
    c.in_err-free.ensures.refused c.in_ok-x.ensures.slot)

pub returns-in_err-y-clause-refused : goal.returns-in_err-y-clause-refused
returns-in_err-y-clause-refused c =
    let p = err_from_is_err_and c.from_residual-in_err-y.result c.from_residual-in_err-y.ensures.1 in
    let code = c.args.code.now.items in
    let longer = ap length c.in_ok-x.ensures.code ∙ length-append code (eval c.args.scope.now c.args.t (expression c.args.l.now)) in
    rw (p.1, p.2) (both_second c.in_err-y.field-0.0 c.args.scope.now (length code) _ c.args.t _ _ (expression c.args.l.now) (expression c.args.r.now)
    c.in_err-y.ensures.refused c.in_ok-free.ensures.next c.in_ok-x.ensures.slot longer)
