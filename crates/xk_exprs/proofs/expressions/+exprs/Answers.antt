use Rattle.std.proofs.Common.{sym, ap, subst, ◌∙◌}
use Rattle.std.proofs.lemmas.Result.{err_from_is_err_and}
use Rattle.xk_exprs.specs.Marks.{marks}
use Rattle.xk_tree.specs.Tree.{expression}
use Rattle.xk_exprs.specs.ReaderCombinators.{Refuses}
use Rattle.xk_exprs.specs.ExprReaders.{factor_at, terms, sums}
use Rattle.xk_exprs.proofs.SoundnessLemmas.{term_shrinks, sum_shrinks}
use Rattle.xk_exprs.proofs.OperandLoopLemmas.{first_refused, first_read, spent, operand_refused, operand_kept, open_is, paren_refused, paren_read, operand_shrinks, no_more}
use Rattle.xk_exprs.proofs.expressions.+exprs.Goals as goal

pub term-returns-in_err-left : goal.term-returns-in_err-left
unfolding terms
term-returns-in_err-left t c =
    let p = err_from_is_err_and c.from_residual.result c.from_residual.ensures.1 in
    rw (p.1, p.2) (first_refused c.in_err-left.field-0.0 1 (factor_at c.args.levels) c.args.operators (marks c.args.tokens.now) c.in_err-left.ensures)

pub term-loop-at-init : goal.term-loop-at-init
unfolding terms
term-loop-at-init t c = first_read 1 (factor_at c.args.levels) c.args.operators (marks c.args.tokens.now) _ c.in_ok-left.ensures

pub term-returns-then-operators-eq0 : goal.term-returns-then-operators-eq0
term-returns-then-operators-eq0 t c = sym c.loop-at.invariant ∙ spent _ _ _ _ _ c.in-Some.ensures c.if-operators-eq0.true

pub term-returns-in_err-right : goal.term-returns-in_err-right
term-returns-in_err-right t c =
    let p = err_from_is_err_and c.from_residual-in_err-right.result c.from_residual-in_err-right.ensures.1 in
    rw (p.1, p.2) (subst (Refuses c.in_err-right.field-0.0) c.loop-at.invariant
    (operand_refused c.in_err-right.field-0.0 _ _ _ _ _ c.in-Some.ensures c.if-operators-eq0.false c.in_err-right.ensures))

pub term-loop-at-smaller : goal.term-loop-at-smaller
term-loop-at-smaller t c =
    operand_shrinks _ _ (term_shrinks c.args.levels) (expression c.loop-at.left, c.loop-at.operators) c.loop-at.rest.now c.in_ok-right.right_rest.now _ _
    c.in-Some.ensures c.if-operators-eq0.false c.in_ok-right.ensures

pub term-loop-at-preserved : goal.term-loop-at-preserved
term-loop-at-preserved t c =
    operand_kept _ _ (term_shrinks c.args.levels) _ _ _ _ _ _ c.in-Some.ensures c.if-operators-eq0.false c.in_ok-right.ensures c.in_ok-left-2.ensures c.loop-at.invariant

pub term-returns : goal.term-returns
term-returns t c = sym c.loop-at.invariant ∙ no_more _ _ _ _ c.in_default.ensures

pub sum-returns-in_err-left : goal.sum-returns-in_err-left
unfolding sums
sum-returns-in_err-left t c =
    let p = err_from_is_err_and c.from_residual.result c.from_residual.ensures.1 in
    rw (p.1, p.2) (first_refused c.in_err-left.field-0.0 2 (terms (factor_at c.args.levels)) c.args.operators (marks c.args.tokens.now) c.in_err-left.ensures)

pub sum-loop-at-init : goal.sum-loop-at-init
unfolding sums
sum-loop-at-init t c = first_read 2 (terms (factor_at c.args.levels)) c.args.operators (marks c.args.tokens.now) _ c.in_ok-left.ensures

pub sum-returns-then-operators-eq0 : goal.sum-returns-then-operators-eq0
sum-returns-then-operators-eq0 t c = sym c.loop-at.invariant ∙ spent _ _ _ _ _ c.in-Some.ensures c.if-operators-eq0.true

pub sum-returns-in_err-right : goal.sum-returns-in_err-right
sum-returns-in_err-right t c =
    let p = err_from_is_err_and c.from_residual-in_err-right.result c.from_residual-in_err-right.ensures.1 in
    rw (p.1, p.2) (subst (Refuses c.in_err-right.field-0.0) c.loop-at.invariant
    (operand_refused c.in_err-right.field-0.0 _ _ _ _ _ c.in-Some.ensures c.if-operators-eq0.false c.in_err-right.ensures))

pub sum-loop-at-smaller : goal.sum-loop-at-smaller
sum-loop-at-smaller t c =
    operand_shrinks _ _ (sum_shrinks c.args.levels) (expression c.loop-at.left, c.loop-at.operators) c.loop-at.rest.now c.in_ok-right.right_rest.now _ _
    c.in-Some.ensures c.if-operators-eq0.false c.in_ok-right.ensures

pub sum-loop-at-preserved : goal.sum-loop-at-preserved
sum-loop-at-preserved t c =
    operand_kept _ _ (sum_shrinks c.args.levels) _ _ _ _ _ _ c.in-Some.ensures c.if-operators-eq0.false c.in_ok-right.ensures c.in_ok-left-2.ensures c.loop-at.invariant

pub sum-returns : goal.sum-returns
sum-returns t c = sym c.loop-at.invariant ∙ no_more _ _ _ _ c.in_default.ensures

pub factor-returns-in_err-rest-in-LeftParen : goal.factor-returns-in_err-rest-in-LeftParen
factor-returns-in_err-rest-in-LeftParen t c =
    let p = err_from_is_err_and c.from_residual-in_err-rest-in-LeftParen.result c.from_residual-in_err-rest-in-LeftParen.ensures.1 in
    let o = open_is (marks c.args.tokens.now) _ c.in-Some.token.at c.in-Some.token.kind _ c.in-Some.ensures c.in-Sign.is c.in-LeftParen.is in
    rw (p.1, p.2) (paren_refused c.in_err-rest-in-LeftParen.field-0.0 c.args.levels c.args.operators _ _ _ _
    o c.if-levels-eq0.false c.in_ok-inner-in-LeftParen.ensures c.in_err-rest-in-LeftParen.ensures)

pub factor-returns-in_ok-boxed-in-LeftParen : goal.factor-returns-in_ok-boxed-in-LeftParen
factor-returns-in_ok-boxed-in-LeftParen t c =
    let o = open_is (marks c.args.tokens.now) _ c.in-Some.token.at c.in-Some.token.kind _ c.in-Some.ensures c.in-Sign.is c.in-LeftParen.is in
    paren_read c.args.levels c.args.operators _ _ _ _ _ _
    o c.if-levels-eq0.false c.in_ok-inner-in-LeftParen.ensures c.in_ok-rest-in-LeftParen.ensures (ap expression (sym c.in_ok-boxed-in-LeftParen.ensures.ok))
