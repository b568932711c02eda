use Rattle.std.proofs.Common.{◌≡◌, drop, map}
use Rattle.xk_lexer.specs.Tokens.{token_value}
use Rattle.xk_explain_words.specs.declared.heads.Head.TheVariants as head
use Rattle.xk_explain_words.specs.Heads.{head_behind}
use Rattle.xk_explain_words.proofs.heads.head_behind.Given as goal

-- the tokens that are left, behind the statement so far, are all of them
abbrev pub invariant-loop-token : goal.invariant-loop-token
invariant-loop-token l =
    head_behind l.text l.at l.head (map token_value (drop l.token-index l.tokens))
    ≡ head_behind l.text l.at head.Other (map token_value l.tokens)
