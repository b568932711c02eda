use Rattle.std.proofs.Common.{◌≡◌, length}
use Rattle.xk_lexer.specs.declared.token.Sign.TheVariants as sign
use Rattle.xk_tree.specs.Tree.{words}
use Rattle.xk_exprs.specs.Marks.{marks}
use Rattle.xk_syntax.specs.Readers.{word_at, sign_at, more_at, commas_at}
use Rattle.xk_syntax.proofs.lists.names.Given as goal

-- what is read from here on is what is read from the start
abbrev pub invariant-loop-after : goal.invariant-loop-after
invariant-loop-after l = more_at (sign_at sign.Comma) word_at (words l.names.items) (marks l.rest) ≡ commas_at word_at (marks l.fn.tokens)

abbrev pub decreases-loop-after : goal.decreases-loop-after
decreases-loop-after l = length l.rest
