use Rattle.std.proofs.Common.{◌≡◌, option_map, length, subst, rules}
use Rattle.std.proofs.lemmas.Result.{err_from_is_err_and}
use Rattle.xk_tree.specs.declared.tree.Stmt.{the_lemmas}
use Rattle.xk_tree.specs.Tree.{Statement, Async, clock_list, statement}
use Rattle.xk_emit.specs.EmittedCode.{DeniesCode}
use Rattle.xk_emit.proofs.CodeErrorLemmas.{denies, emits_not}
use Rattle.xk_emit.proofs.statements.Emitter.emit_simple.Goals as goal

pub returns-in_err-emit_async-in-Async : goal.returns-in_err-emit_async-in-Async
returns-in_err-emit_async-in-Async c =
    let p = err_from_is_err_and c.from_residual-in_err-emit_async-in-Async.result c.from_residual-in_err-emit_async-in-Async.ensures.1 in
    let err = c.in_err-emit_async-in-Async.field-0.0 in
    let cx = c.args.self.now.setting.now in
    let free = c.args.self.now.free in
    let scope = c.args.scope.now in
    let n = c.args.n in
    let base = c.args.code.now.items in
    let refused = c.in_err-emit_async-in-Async.ensures.refused in
    let f = c.in-Async in
    let seen : Async f.at (option_map clock_list f.clocks) (statement f.field-2.value) ≡ statement c.args.s.now = rw f.is (search (rules, the_lemmas)) in
    rw (p.1, p.2) (emits_not (subst (λ (x : Statement). DeniesCode err cx free scope n (length base) x) seen
    (denies err refused (λ k. k) (λ m. m.0))))
