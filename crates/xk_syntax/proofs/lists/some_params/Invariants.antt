use Rattle.std.proofs.Common.{◌≡◌, length, map}
use Rattle.xk_lexer.specs.declared.token.Sign.TheVariants as sign
use Rattle.xk_tree.specs.Tree.{param_value}
use Rattle.xk_exprs.specs.Marks.{marks}
use Rattle.xk_syntax.specs.Readers.{param_at, sign_at, more_at, commas_at}
use Rattle.xk_syntax.proofs.lists.some_params.Given as goal

-- what is read from here on is what is read from the start
abbrev pub invariant-loop-after : goal.invariant-loop-after
invariant-loop-after l = more_at (sign_at sign.Comma) param_at (map param_value l.params.items) (marks l.rest) ≡ commas_at param_at (marks l.fn.tokens)

abbrev pub decreases-loop-after : goal.decreases-loop-after
decreases-loop-after l = length l.rest
