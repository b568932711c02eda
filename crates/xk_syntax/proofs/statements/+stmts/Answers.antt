use Rattle.std.proofs.Common.{◌-◌, map, ap, subst, ◌∙◌}
use Rattle.std.proofs.lemmas.Result.{err_from_is_err_and}
use Rattle.std.proofs.lemmas.List.{map_push}
use Rattle.xk_tree.specs.Tree.{statement}
use Rattle.xk_exprs.specs.Marks.{marks}
use Rattle.xk_exprs.specs.ReaderCombinators.{Gives}
use Rattle.xk_syntax.specs.Readers.{ahead_at, stmt_at}
use Rattle.xk_syntax.proofs.ListLoopLemmas.{more_read, shorter}
use Rattle.xk_syntax.proofs.StatementLemmas.{stmt_shortens, stmts_refused, stmts_unended, stmts_read}
use Rattle.xk_syntax.proofs.FlatLemmas.{flat_is}
use Rattle.xk_syntax.proofs.statements.+stmts.Goals as goal

pub read_stmts-returns-in_err-stmt : goal.read_stmts-returns-in_err-stmt
read_stmts-returns-in_err-stmt t c =
    let p = err_from_is_err_and c.from_residual.result c.from_residual.ensures.1 in
    rw (p.1, p.2) (stmts_refused c.in_err-stmt.field-0.0 (stmt_at c.args.levels c.args.hidden.now) (map statement c.loop-here.stmts.items) (marks c.loop-here.rest.now)
    (marks c.in-Some.here.now) (marks c.args.tokens.now) c.loop-here.invariant c.in-Some.ensures c.in_err-stmt.ensures)

pub read_stmts-loop-here-smaller : goal.read_stmts-loop-here-smaller
read_stmts-loop-here-smaller t c =
    shorter ahead_at (stmt_at c.args.levels c.args.hidden.now) (stmt_shortens c.args.levels c.args.hidden.now) c.loop-here.rest.now c.in-Some.here.now c.in_ok-stmt.left.now
    (statement c.in_ok-stmt.stmt) c.in-Some.ensures c.in_ok-stmt.ensures

pub read_stmts-loop-here-preserved : goal.read_stmts-loop-here-preserved
read_stmts-loop-here-preserved t c =
    let items = ap (map statement) c.in_ok-push_stmt.ensures ∙ map_push statement c.loop-here.stmts.items c.in_ok-stmt.stmt in
    more_read ahead_at (stmt_at c.args.levels c.args.hidden.now) (stmt_shortens c.args.levels c.args.hidden.now) (map statement c.loop-here.stmts.items) (marks c.loop-here.rest.now) (marks c.in-Some.here.now)
    (statement c.in_ok-stmt.stmt, marks c.in_ok-stmt.left.now) (map statement c.push_stmt.new.stmts.items) _ c.in-Some.ensures c.in_ok-stmt.ensures items c.loop-here.invariant

pub read_stmts-returns-in_err-close : goal.read_stmts-returns-in_err-close
read_stmts-returns-in_err-close t c =
    let p = err_from_is_err_and c.from_residual-in_err-close.result c.from_residual-in_err-close.ensures.1 in
    rw (p.1, p.2) (stmts_unended c.in_err-close.field-0.0 (stmt_at c.args.levels c.args.hidden.now) (map statement c.loop-here.stmts.items) (marks c.loop-here.rest.now)
    (marks c.args.tokens.now) c.loop-here.invariant c.in_default.ensures c.in_err-close.ensures)

pub read_stmts-returns : goal.read_stmts-returns
read_stmts-returns t c =
    stmts_read (stmt_at c.args.levels c.args.hidden.now) (map statement c.loop-here.stmts.items) (marks c.loop-here.rest.now) (marks c.args.tokens.now)
    (c.in_ok-close.close, marks c.in_ok-close.after.now) c.loop-here.invariant c.in_default.ensures c.in_ok-close.ensures

pub read_stmt-returns-then-begins_flat : goal.read_stmt-returns-then-begins_flat
read_stmt-returns-then-begins_flat t c =
    let head = c.begins_flat.ensures (c.args.levels - 1) c.args.hidden.now c.if-begins_flat.true in
    subst (Gives (λ x. (statement x.0, marks x.1.now)) c.flat.result) (flat_is c.args.levels c.args.hidden.now (marks c.args.tokens.now) c.if-levels-eq0.false head) c.flat.ensures
