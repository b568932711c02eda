use Rattle.std.proofs.Common.{◌≡◌, length, map}
use Rattle.xk_lexer.specs.Tokens.{token_value}
use Rattle.xk_explain_expected.specs.Missing.{tokens_from}
use Rattle.xk_explain_expected.proofs.missing.tokens_from.Given as goal

-- what was left out makes no difference
abbrev pub invariant-loop-rest : goal.invariant-loop-rest
invariant-loop-rest l = tokens_from l.at (map token_value l.rest) ≡ tokens_from l.at (map token_value l.tokens)

abbrev pub decreases-loop-rest : goal.decreases-loop-rest
decreases-loop-rest l = length l.rest
