use Rattle.std.proofs.Common.{◌≡◌, ◌≤◌, ◌-◌, ◌++◌, length, map}
use Rattle.xk_lexer.specs.Tokens.{token_value}
use Rattle.xk_lexer.specs.Lexing.{lexed, lexed_from}
use Rattle.xk_lexer.proofs.scan.tokens.Given as goal

abbrev pub invariant-loop-piece : goal.invariant-loop-piece
invariant-loop-piece l = record {
  room : length l.rest ≤ length l.text;
  so_far : map token_value l.tokens.items ++ lexed_from 0 (length l.text - length l.rest) l.rest ≡ lexed l.text;
}

abbrev pub decreases-loop-piece : goal.decreases-loop-piece
decreases-loop-piece l = length l.rest
