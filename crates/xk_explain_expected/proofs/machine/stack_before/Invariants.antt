use Rattle.std.proofs.Common.{◌≡◌, [], ◌∷◌, drop, map, reverse}
use Rattle.xk_lexer.specs.Tokens.{token_value}
use Rattle.xk_explain_expected.specs.declared.grammar.Symbol.TheVariants as symbol
use Rattle.xk_explain_expected.specs.Expected.{taken_before}
use Rattle.xk_explain_expected.proofs.machine.stack_before.Given as goal

-- the tokens that are left, on the stack as it is, are all of them on the first one
abbrev pub invariant-loop-token : goal.invariant-loop-token
invariant-loop-token l =
    taken_before l.at (reverse l.stack.items) (map token_value (drop l.token-index l.tokens))
    ≡ taken_before l.at (symbol.Program ∷ []) (map token_value l.tokens)
