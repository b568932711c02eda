use Rattle.std.proofs.Common.{List, ◌∷◌, ◌++◌, length, suc, option_map, ◌∙◌, ap, sym, arith}
use Rattle.std.proofs.lemmas.Result.{on_ok_weaker}
use Rattle.xk_tree.specs.declared.tree.Stmt.{Stmt}
use Rattle.xk_tree.specs.declared.tree.Stmt.TheVariants as stmt
use Rattle.xk_tree.specs.declared.tree.Stmt.TheOpen as layer
use Rattle.xk_tree.specs.declared.tree.Stmt.TheFolds.{fold-roll-Stmt}
use Rattle.xk_tree.specs.Tree.{Statement, Block, If, IfElse, For, Async, Finish, layer_statement, expression, statement, statements, clock_list, word, bound}
use Rattle.xk_names.specs.declared.binding.NameKind.TheVariants as kind
use Rattle.xk_names.specs.Scope.{Declaration, Scope, known}
use Rattle.xk_names.specs.Uses.{bound_declares, clocks_listed}
use Rattle.xk_names.specs.Places.{behind}
use Rattle.xk_names.specs.FaultList.{with_declared, body_of, faults, among, least}
use Rattle.xk_names.proofs.LoopScopeLemmas.{loop_behind}
use Rattle.xk_names.proofs.StatementSequenceLemmas.{inside_found, both_found, block_turn, after_turn}
use Rattle.xk_names.proofs.statement_walk.+statements.Goals as goal

pub check-returns-in-Block-clause-faults : goal.check-returns-in-Block-clause-faults
check-returns-in-Block-clause-faults t c =
    on_ok_weaker c.check_block.result (λ h.
    inside_found c.args.methods.now c.args.scope.now (statement c.args.s.now) (Block c.in-Block.field-0
    (statements c.in-Block.ss.items)) c.args.worst.now c.check_own.new.worst c.check_block.new.worst
    (ap statement c.in-Block.is ∙ ap statement (sym (stmt.rolls-Block c.in-Block.field-0 c.in-Block.ss)) ∙ fold-roll-Stmt Statement layer_statement
    (layer.Block c.in-Block.field-0 c.in-Block.ss)) c.in_ok-check_own.ensures
    (h ∙ ap (λ (q : List Stmt). least c.check_own.new.worst
    (among c.args.methods.now c.args.scope.now (statements q))) c.as_slice.ensures.value))
    c.check_block.ensures.faults

pub check-returns-in-If-clause-faults : goal.check-returns-in-If-clause-faults
check-returns-in-If-clause-faults t c =
    on_ok_weaker c.check_held.result (λ h.
    inside_found c.args.methods.now c.args.scope.now (statement c.args.s.now) (If c.in-If.field-0 (expression c.in-If.field-1) c.in-If.field-2
    (expression c.in-If.field-3) (statement c.in-If.s.value)) c.args.worst.now c.check_own.new.worst c.check_held.new.worst
    (ap statement c.in-If.is ∙ ap statement (sym (stmt.rolls-If c.in-If.field-0 c.in-If.field-1 c.in-If.field-2 c.in-If.field-3 c.in-If.s))
    ∙ fold-roll-Stmt Statement layer_statement (layer.If c.in-If.field-0 c.in-If.field-1 c.in-If.field-2 c.in-If.field-3 c.in-If.s)) c.in_ok-check_own.ensures
    (h ∙ ap (λ (q : Stmt). least c.check_own.new.worst (faults c.args.methods.now c.args.scope.now (statement q))) c.deref.ensures))
    c.check_held.ensures.faults

pub check-returns-in_ok-check_held-in-IfElse-clause-faults : goal.check-returns-in_ok-check_held-in-IfElse-clause-faults
check-returns-in_ok-check_held-in-IfElse-clause-faults t c =
    on_ok_weaker c.check_held-in-IfElse-2.result (λ h.
    inside_found c.args.methods.now c.args.scope.now (statement c.args.s.now) (IfElse c.in-IfElse.field-0 (expression c.in-IfElse.field-1) c.in-IfElse.field-2
    (expression c.in-IfElse.field-3) (statement c.in-IfElse.s.value)
    (statement c.in-IfElse.t.value)) c.args.worst.now c.check_own.new.worst c.check_held-in-IfElse-2.new.worst
    (ap statement c.in-IfElse.is ∙ ap statement (sym
    (stmt.rolls-IfElse c.in-IfElse.field-0 c.in-IfElse.field-1 c.in-IfElse.field-2 c.in-IfElse.field-3 c.in-IfElse.s c.in-IfElse.t))
    ∙ fold-roll-Stmt Statement layer_statement
    (layer.IfElse c.in-IfElse.field-0 c.in-IfElse.field-1 c.in-IfElse.field-2 c.in-IfElse.field-3 c.in-IfElse.s c.in-IfElse.t)) c.in_ok-check_own.ensures
    (both_found c.args.methods.now c.args.scope.now c.check_held-in-IfElse.new.scope c.in-IfElse.s.value c.in-IfElse.t.value c.deref-in-IfElse.result.now c.deref-in-IfElse-2.result.now
    c.check_own.new.worst c.check_held-in-IfElse.new.worst c.check_held-in-IfElse-2.new.worst
    c.deref-in-IfElse.ensures c.deref-in-IfElse-2.ensures c.in_ok-check_held-in-IfElse.ensures.scope c.in_ok-check_held-in-IfElse.ensures.faults h))
    c.check_held-in-IfElse-2.ensures.faults

pub check-returns-in-For-clause-faults : goal.check-returns-in-For-clause-faults
check-returns-in-For-clause-faults t c =
    let name : Declaration = record { name = word c.in-For.x; known = known kind.Val (length c.args.scope.now.bodies) } in
    on_ok_weaker c.check_loop.result (λ h.
    inside_found c.args.methods.now c.args.scope.now (statement c.args.s.now) (For c.in-For.field-0 (word c.in-For.x) c.in-For.field-2 (bound c.in-For.limit)
    (statement c.in-For.s.value)) c.args.worst.now c.check_own.new.worst c.check_loop.new.worst
    (ap statement c.in-For.is ∙ ap statement (sym (stmt.rolls-For c.in-For.field-0 c.in-For.x c.in-For.field-2 c.in-For.limit c.in-For.s))
    ∙ fold-roll-Stmt Statement layer_statement (layer.For c.in-For.field-0 c.in-For.x c.in-For.field-2 c.in-For.limit c.in-For.s)) c.in_ok-check_own.ensures
    (h
    ∙ ap (λ (q : Stmt). least c.check_own.new.worst (faults c.args.methods.now (with_declared c.args.scope.now (name ∷ bound_declares (length c.args.scope.now.bodies) (bound c.in-For.limit))) (statement q))) c.deref-in-For.ensures))
    c.check_loop.ensures.faults

pub check-returns-in_ok-clocks-in-Async-clause-faults : goal.check-returns-in_ok-clocks-in-Async-clause-faults
check-returns-in_ok-clocks-in-Async-clause-faults t c =
    on_ok_weaker c.check_body.result (λ h.
    inside_found c.args.methods.now c.args.scope.now (statement c.args.s.now) (Async c.in-Async.field-0 (option_map clock_list c.in-Async.clocks)
    (statement c.in-Async.s.value)) c.args.worst.now c.check_own.new.worst c.check_body.new.worst
    (ap statement c.in-Async.is ∙ ap statement (sym (stmt.rolls-Async c.in-Async.field-0 c.in-Async.clocks c.in-Async.s))
    ∙ fold-roll-Stmt Statement layer_statement (layer.Async c.in-Async.field-0 c.in-Async.clocks c.in-Async.s)) c.in_ok-check_own.ensures
    (h
    ∙ ap (λ k. let there : Scope = record { names = c.args.scope.now.names; bodies = k ∷ c.args.scope.now.bodies } in
    least c.check_own.new.worst (faults c.args.methods.now there (statement c.deref-in-Async.result.now))) c.in_ok-clocks-in-Async.ensures
    ∙ ap (λ (q : Stmt). least c.check_own.new.worst (faults c.args.methods.now (body_of c.args.scope.now (clocks_listed (option_map clock_list c.in-Async.clocks)))
    (statement q))) c.deref-in-Async.ensures))
    c.check_body.ensures.faults

pub check-returns-in-Finish-clause-faults : goal.check-returns-in-Finish-clause-faults
check-returns-in-Finish-clause-faults t c =
    on_ok_weaker c.check_held-in-Finish.result (λ h.
    inside_found c.args.methods.now c.args.scope.now (statement c.args.s.now) (Finish c.in-Finish.field-0
    (statement c.in-Finish.s.value)) c.args.worst.now c.check_own.new.worst c.check_held-in-Finish.new.worst
    (ap statement c.in-Finish.is ∙ ap statement (sym (stmt.rolls-Finish c.in-Finish.field-0 c.in-Finish.s))
    ∙ fold-roll-Stmt Statement layer_statement (layer.Finish c.in-Finish.field-0 c.in-Finish.s)) c.in_ok-check_own.ensures
    (h ∙ ap (λ (q : Stmt). least c.check_own.new.worst
    (faults c.args.methods.now c.args.scope.now (statement q))) c.deref-in-Finish.ensures))
    c.check_held-in-Finish.ensures.faults

pub check_block-loop-s-preserved : goal.check_block-loop-s-preserved
check_block-loop-s-preserved t c = record {
  faults = block_turn c.args.methods.now c.loop-s.scope c.check.new.scope c.args.ss.now c.loop-s.s-index c.s-item.result c.loop-s.worst c.check.new.worst (omega arith) c.s-item.is
      c.in_ok-check.ensures.faults c.in_ok-check.ensures.scope ∙ c.loop-s.invariant.faults;
  scope = after_turn c.loop-s.scope c.check.new.scope c.args.ss.now c.loop-s.s-index c.s-item.result (omega arith) c.s-item.is c.in_ok-check.ensures.scope
      ∙ c.loop-s.invariant.scope;
}

pub check_loop-returns-clause-scope : goal.check_loop-returns-clause-scope
check_loop-returns-clause-scope t c =
    let name : Declaration = record { name = word c.args.x; known = known kind.Val (length c.args.scope.now.bodies) } in
    let limits : List Declaration = bound_declares (length c.args.scope.now.bodies) (bound c.args.limit.now) in
    let held : List Declaration = behind (length c.args.scope.now.bodies) (statement c.args.s.now) in
    c.cut.ensures.behind c.args.scope.now (name ∷ (limits ++ held))
    (loop_behind c.args.scope.now c.declare.new.self c.declare_limit.new.scope c.check.new.scope name (bound c.args.limit.now) (statement c.args.s.now)
    c.in_ok-declare.ensures c.in_ok-declare_limit.ensures c.in_ok-check.ensures.scope) c.len-outside.ensures

pub check_body-returns-clause-scope : goal.check_body-returns-clause-scope
check_body-returns-clause-scope t c =
    let held : List Declaration = behind (suc (length c.args.scope.now.bodies)) (statement c.args.s.now) in
    c.leave.ensures c.args.scope.now c.args.clocks held
    (c.in_ok-check.ensures.scope ∙ ap (λ (k : Scope). with_declared k (behind (length k.bodies) (statement c.args.s.now))) c.in_ok-enter.ensures) c.len-outside.ensures
