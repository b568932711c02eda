use Rattle.std.proofs.Common.{◌≡◌, drop, map}
use Rattle.xk_lexer.specs.Tokens.{token_value}
use Rattle.xk_explain_brackets.specs.Brackets.{first_back}
use Rattle.xk_explain_brackets.proofs.brackets.first_back.Given as goal

-- none of those so far begins such a line
abbrev pub invariant-loop-token : goal.invariant-loop-token
invariant-loop-token l =
    first_back l.text l.opened (map token_value (drop l.token-index l.tokens)) ≡ first_back l.text l.opened (map token_value l.tokens)
