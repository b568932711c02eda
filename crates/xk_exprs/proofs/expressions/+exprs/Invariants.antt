use Rattle.std.proofs.Common.{◌≡◌, ◌+◌, ◌*◌, length}
use Rattle.xk_exprs.specs.Marks.{marks}
use Rattle.xk_tree.specs.Tree.{expression}
use Rattle.xk_exprs.specs.ReaderCombinators.{loop}
use Rattle.xk_exprs.specs.ExprReaders.{another, factor_at, terms, sums}
use Rattle.xk_exprs.proofs.expressions.+exprs.Given as goal

abbrev pub decreases-factor : goal.decreases-factor
decreases-factor l = 3 * l.levels

abbrev pub decreases-term : goal.decreases-term
decreases-term l = 3 * l.levels + 1

abbrev pub decreases-sum : goal.decreases-sum
decreases-sum l = 3 * l.levels + 2

abbrev pub invariant-term-loop-at : goal.invariant-term-loop-at
invariant-term-loop-at l =
    loop (another 1 (factor_at l.levels)) (expression l.left, l.operators) (marks l.rest)
    ≡ terms (factor_at l.levels) l.fn.operators (marks l.tokens)

abbrev pub decreases-term-loop-at : goal.decreases-term-loop-at
decreases-term-loop-at l = length l.rest

abbrev pub invariant-sum-loop-at : goal.invariant-sum-loop-at
invariant-sum-loop-at l =
    loop (another 2 (terms (factor_at l.levels))) (expression l.left, l.operators) (marks l.rest)
    ≡ sums (factor_at l.levels) l.fn.operators (marks l.tokens)

abbrev pub decreases-sum-loop-at : goal.decreases-sum-loop-at
decreases-sum-loop-at l = length l.rest
