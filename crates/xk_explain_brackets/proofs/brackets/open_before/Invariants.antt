use Rattle.std.proofs.Common.{◌≡◌, [], drop, map}
use Rattle.xk_lexer.specs.Tokens.{token_value}
use Rattle.xk_explain_brackets.specs.Brackets.{open_before}
use Rattle.xk_explain_brackets.proofs.brackets.open_before.Given as goal

-- the tokens that are left, behind what is opened so far, are all of them
abbrev pub invariant-loop-token : goal.invariant-loop-token
invariant-loop-token l =
    open_before l.text l.at l.opened.items (map token_value (drop l.token-index l.tokens))
    ≡ open_before l.text l.at [] (map token_value l.tokens)
