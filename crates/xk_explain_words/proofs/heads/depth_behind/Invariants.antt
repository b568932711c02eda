use Rattle.std.proofs.Common.{◌≡◌, ◌≤◌, drop, map}
use Rattle.xk_lexer.specs.Tokens.{token_value}
use Rattle.xk_explain_words.specs.Heads.{depth_behind}
use Rattle.xk_explain_words.proofs.heads.depth_behind.Given as goal

-- the tokens that are left, behind the depth so far, are all of them; no token opens more than one
abbrev pub invariant-loop-token : goal.invariant-loop-token
invariant-loop-token l =
    (depth_behind l.text l.at l.depth (map token_value (drop l.token-index l.tokens))
    ≡ depth_behind l.text l.at 0 (map token_value l.tokens))
    × (l.depth ≤ l.token-index)
