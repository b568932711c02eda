use Rattle.std.proofs.Common.{◌≡◌, [], None, drop, map}
use Rattle.xk_lexer.specs.Tokens.{token_value}
use Rattle.xk_explain_brackets.specs.Brackets.{left_before}
use Rattle.xk_explain_brackets.proofs.brackets.left_before.Given as goal

-- the tokens that are left, behind what is opened and found so far, are all of them
abbrev pub invariant-loop-token : goal.invariant-loop-token
invariant-loop-token l =
    left_before l.text l.at l.left l.opened.items (map token_value (drop l.token-index l.tokens))
    ≡ left_before l.text l.at None [] (map token_value l.tokens)
