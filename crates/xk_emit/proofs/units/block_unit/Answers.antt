use Rattle.std.proofs.Common.{length, map, [], refl}
use Rattle.std.proofs.lemmas.Result.{err_from_is_err_and}
use Rattle.std.proofs.lemmas.List.{length-map}
use Rattle.xk_tree.specs.Tree.{Block, statements}
use Rattle.xk_emit.proofs.UnitLemmas.{code_over, names_over, scope_over}
use Rattle.xk_emit.proofs.units.block_unit.Goals as goal

pub returns-in_err-scope-clause-table : goal.returns-in_err-scope-clause-table
returns-in_err-scope-clause-table c =
    let p = err_from_is_err_and c.from_residual.result c.from_residual.ensures.1 in
    rw (p.1, p.2) (scope_over c.args.setting.now c.args.kind (map (λ x. x.now) c.args.names.now) c.args.kinds.items (Block 0 (statements c.args.body.now)) (length c.args.names.now) _ c.in_err-scope.field-0.0
    c.in_err-scope.ensures.refused (length-map c.args.names.now (λ x. x.now)))

pub returns-in_err-free-clause-table : goal.returns-in_err-free-clause-table
returns-in_err-free-clause-table c =
    let p = err_from_is_err_and c.from_residual-in_err-free.result c.from_residual-in_err-free.ensures.1 in
    rw (p.1, p.2) (names_over c.args.setting.now c.args.kind (map (λ x. x.now) c.args.names.now) c.args.kinds.items (Block 0 (statements c.args.body.now)) c.in_ok-scope.n c.in_err-free.field-0.0
    c.in_err-free.ensures.refused c.in_ok-scope.ensures.count)

pub returns-in_err-code-clause-table : goal.returns-in_err-code-clause-table
returns-in_err-code-clause-table c =
    let p = err_from_is_err_and c.from_residual-in_err-code.result c.from_residual-in_err-code.ensures.1 in
    rw (p.1, p.2) (code_over c.args.setting.now c.args.kind (map (λ x. x.now) c.args.names.now) c.args.kinds.items (Block 0 (statements c.args.body.now)) c.in_ok-scope.scope c.in_ok-scope.n
    c.in_ok-free.free [] c.in_err-code.field-0.0 c.in_err-code.ensures.refused refl c.in_ok-scope.ensures.scope c.in_ok-scope.ensures.count c.in_ok-free.ensures.next)
