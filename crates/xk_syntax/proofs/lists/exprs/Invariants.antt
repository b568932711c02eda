use Rattle.std.proofs.Common.{◌≡◌, length}
use Rattle.xk_lexer.specs.declared.token.Sign.TheVariants as sign
use Rattle.xk_tree.specs.Tree.{expressions}
use Rattle.xk_exprs.specs.ExprReaders.{whole_at}
use Rattle.xk_exprs.specs.Marks.{marks}
use Rattle.xk_syntax.specs.Readers.{sign_at, more_at, commas_at}
use Rattle.xk_syntax.proofs.lists.exprs.Given as goal

-- what is read from here on is what is read from the start
abbrev pub invariant-loop-after : goal.invariant-loop-after
invariant-loop-after l = more_at (sign_at sign.Comma) (whole_at l.levels) (expressions l.exprs.items) (marks l.rest) ≡ commas_at (whole_at l.levels) (marks l.fn.tokens)

abbrev pub decreases-loop-after : goal.decreases-loop-after
decreases-loop-after l = length l.rest
