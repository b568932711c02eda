use Rattle.std.proofs.Common.{◌≡◌, [], length, map}
use Rattle.xk_lexer.specs.declared.token.Keyword.TheVariants as keyword
use Rattle.xk_tree.specs.Tree.{shared_value}
use Rattle.xk_exprs.specs.Marks.{marks}
use Rattle.xk_syntax.specs.Readers.{keyword_at, more_at, shared_at}
use Rattle.xk_syntax.proofs.program.shared_numbers.Given as goal

-- what is read from here on is what is read from the start
abbrev pub invariant-loop-after : goal.invariant-loop-after
invariant-loop-after l = more_at (keyword_at keyword.Shared) shared_at (map shared_value l.numbers.items) (marks l.rest)
    ≡ more_at (keyword_at keyword.Shared) shared_at [] (marks l.fn.tokens)

abbrev pub decreases-loop-after : goal.decreases-loop-after
decreases-loop-after l = length l.rest
