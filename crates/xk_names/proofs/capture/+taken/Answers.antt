use Rattle.std.proofs.Common.{◌++◌, map, option_map, sym, ◌∙◌, ap, arith}
use Rattle.std.proofs.lemmas.Result.{on_ok_weaker}
use Rattle.xk_tree.specs.declared.tree.Stmt.{Stmt}
use Rattle.xk_tree.specs.declared.tree.Stmt.TheVariants as stmt
use Rattle.xk_tree.specs.declared.tree.Stmt.TheOpen as layer
use Rattle.xk_tree.specs.declared.tree.Stmt.TheFolds.{fold-roll-Stmt}
use Rattle.xk_tree.specs.Tree.{Word, Statement, Block, If, IfElse, For, Async, Finish, layer_statement, expression, statement, statements, clock_list, word, bound}
use Rattle.std.proofs.Common.{List}
use Rattle.xk_names.specs.Places.{behind}
use Rattle.xk_names.specs.Captures.{loop_words, outer_words, outer_among, own_behind}
use Rattle.xk_names.specs.FaultList.{put_texts}
use Rattle.xk_names.proofs.FaultAppendLemmas.{put_texts_append}
use Rattle.xk_names.proofs.CaptureStepLemmas.{inner_taken, both_taken, taken_turn, own_turn}
use Rattle.xk_names.proofs.capture.+taken.Goals as goal

pub take_all-returns-in-Block-clause-out : goal.take_all-returns-in-Block-clause-out
take_all-returns-in-Block-clause-out t c =
    on_ok_weaker c.take_block.result (λ h.
    inner_taken c.args.methods.now c.args.own.now (statement c.args.s.now) (Block c.in-Block.field-0 (statements c.in-Block.ss.items)) c.args.out.now c.take_own.new.out c.take_block.new.out
    (ap statement c.in-Block.is ∙ ap statement (sym (stmt.rolls-Block c.in-Block.field-0 c.in-Block.ss)) ∙ fold-roll-Stmt Statement layer_statement (layer.Block c.in-Block.field-0 c.in-Block.ss))
    c.in_ok-take_own.ensures
    (h ∙ ap (λ (q : List Stmt). put_texts c.take_own.new.out (outer_among c.args.methods.now c.args.own.now
    (statements q))) c.as_slice.ensures.value))
    c.take_block.ensures.out

pub take_all-returns-in-If-clause-out : goal.take_all-returns-in-If-clause-out
take_all-returns-in-If-clause-out t c =
    on_ok_weaker c.take_held.result (λ h.
    inner_taken c.args.methods.now c.args.own.now (statement c.args.s.now) (If c.in-If.field-0 (expression c.in-If.field-1) c.in-If.field-2 (expression c.in-If.field-3)
    (statement c.in-If.s.value)) c.args.out.now c.take_own.new.out c.take_held.new.out
    (ap statement c.in-If.is ∙ ap statement (sym (stmt.rolls-If c.in-If.field-0 c.in-If.field-1 c.in-If.field-2 c.in-If.field-3 c.in-If.s))
    ∙ fold-roll-Stmt Statement layer_statement (layer.If c.in-If.field-0 c.in-If.field-1 c.in-If.field-2 c.in-If.field-3 c.in-If.s)) c.in_ok-take_own.ensures
    (h ∙ ap (λ (q : Stmt). put_texts c.take_own.new.out (outer_words c.args.methods.now c.args.own.now (statement q))) c.deref.ensures))
    c.take_held.ensures.out

pub take_all-returns-in_ok-take_held-in-IfElse-clause-out : goal.take_all-returns-in_ok-take_held-in-IfElse-clause-out
take_all-returns-in_ok-take_held-in-IfElse-clause-out t c =
    on_ok_weaker c.take_held-in-IfElse-2.result (λ h.
    inner_taken c.args.methods.now c.args.own.now (statement c.args.s.now) (IfElse c.in-IfElse.field-0 (expression c.in-IfElse.field-1) c.in-IfElse.field-2 (expression
    c.in-IfElse.field-3) (statement c.in-IfElse.s.value) (statement c.in-IfElse.t.value)) c.args.out.now c.take_own.new.out c.take_held-in-IfElse-2.new.out
    (ap statement c.in-IfElse.is ∙ ap statement (sym (stmt.rolls-IfElse c.in-IfElse.field-0 c.in-IfElse.field-1 c.in-IfElse.field-2 c.in-IfElse.field-3 c.in-IfElse.s
    c.in-IfElse.t)) ∙ fold-roll-Stmt Statement layer_statement (layer.IfElse c.in-IfElse.field-0 c.in-IfElse.field-1 c.in-IfElse.field-2 c.in-IfElse.field-3 c.in-IfElse.s
    c.in-IfElse.t)) c.in_ok-take_own.ensures
    (both_taken c.args.methods.now c.args.own.now c.take_held-in-IfElse.new.own c.in-IfElse.s.value c.in-IfElse.t.value c.deref-in-IfElse.result.now c.deref-in-IfElse-2.result.now
    c.take_own.new.out c.take_held-in-IfElse.new.out c.take_held-in-IfElse-2.new.out
    c.deref-in-IfElse.ensures c.deref-in-IfElse-2.ensures c.in_ok-take_held-in-IfElse.ensures.own c.in_ok-take_held-in-IfElse.ensures.out h))
    c.take_held-in-IfElse-2.ensures.out

pub take_all-returns-in-For-clause-out : goal.take_all-returns-in-For-clause-out
take_all-returns-in-For-clause-out t c =
    on_ok_weaker c.take_loop.result (λ h.
    inner_taken c.args.methods.now c.args.own.now (statement c.args.s.now) (For c.in-For.field-0 (word c.in-For.x) c.in-For.field-2 (bound c.in-For.limit)
    (statement c.in-For.s.value)) c.args.out.now c.take_own.new.out c.take_loop.new.out
    (ap statement c.in-For.is ∙ ap statement (sym (stmt.rolls-For c.in-For.field-0 c.in-For.x c.in-For.field-2 c.in-For.limit c.in-For.s))
    ∙ fold-roll-Stmt Statement layer_statement (layer.For c.in-For.field-0 c.in-For.x c.in-For.field-2 c.in-For.limit c.in-For.s)) c.in_ok-take_own.ensures
    (h ∙ ap (λ (q : Stmt). put_texts c.take_own.new.out (outer_words c.args.methods.now (put_texts c.args.own.now (loop_words (word c.in-For.x) (bound c.in-For.limit)))
    (statement q))) c.deref-in-For.ensures))
    c.take_loop.ensures.out

pub take_all-returns-in-Async-clause-out : goal.take_all-returns-in-Async-clause-out
take_all-returns-in-Async-clause-out t c =
    on_ok_weaker c.take_held-in-Async.result (λ h.
    inner_taken c.args.methods.now c.args.own.now (statement c.args.s.now) (Async c.in-Async.field-0 (option_map clock_list c.in-Async.field-1)
    (statement c.in-Async.body.value)) c.args.out.now c.take_own.new.out c.take_held-in-Async.new.out
    (ap statement c.in-Async.is ∙ ap statement (sym (stmt.rolls-Async c.in-Async.field-0 c.in-Async.field-1 c.in-Async.body))
    ∙ fold-roll-Stmt Statement layer_statement (layer.Async c.in-Async.field-0 c.in-Async.field-1 c.in-Async.body)) c.in_ok-take_own.ensures
    (h ∙ ap (λ (q : Stmt). put_texts c.take_own.new.out (outer_words c.args.methods.now c.args.own.now
    (statement q))) c.deref-in-Async.ensures))
    c.take_held-in-Async.ensures.out

pub take_all-returns-in-Finish-clause-out : goal.take_all-returns-in-Finish-clause-out
take_all-returns-in-Finish-clause-out t c =
    on_ok_weaker c.take_held-in-Finish.result (λ h.
    inner_taken c.args.methods.now c.args.own.now (statement c.args.s.now) (Finish c.in-Finish.field-0 (statement c.in-Finish.s.value)) c.args.out.now c.take_own.new.out c.take_held-in-Finish.new.out
    (ap statement c.in-Finish.is ∙ ap statement (sym (stmt.rolls-Finish c.in-Finish.field-0 c.in-Finish.s)) ∙ fold-roll-Stmt Statement layer_statement (layer.Finish c.in-Finish.field-0 c.in-Finish.s))
    c.in_ok-take_own.ensures
    (h ∙ ap (λ (q : Stmt). put_texts c.take_own.new.out (outer_words c.args.methods.now c.args.own.now
    (statement q))) c.deref-in-Finish.ensures))
    c.take_held-in-Finish.ensures.out

pub take_block-loop-s-preserved : goal.take_block-loop-s-preserved
take_block-loop-s-preserved t c = record {
  out = taken_turn c.args.methods.now c.loop-s.own c.take_all.new.own c.args.ss.now c.loop-s.s-index c.s-item.result c.loop-s.out c.take_all.new.out (omega arith) c.s-item.is
      c.in_ok-take_all.ensures.out c.in_ok-take_all.ensures.own ∙ c.loop-s.invariant.out;
  own = own_turn c.loop-s.own c.take_all.new.own c.args.ss.now c.loop-s.s-index c.s-item.result (omega arith) c.s-item.is c.in_ok-take_all.ensures.own ∙ c.loop-s.invariant.own;
}

pub take_loop-returns-clause-own : goal.take_loop-returns-clause-own
take_loop-returns-clause-own t c =
    let held : List Word = map (λ d. d.name) (behind 0 (statement c.args.s.now)) in
    let names : List Word = loop_words (word c.args.x) (bound c.args.limit.now) in
    c.cut.ensures.behind c.args.own.now (names ++ held)
    (c.in_ok-take_all.ensures.own ∙ ap (λ k. own_behind k (statement c.args.s.now)) c.in_ok-put_loop.ensures
    ∙ sym (put_texts_append c.args.own.now names held)) c.len-outside.ensures
