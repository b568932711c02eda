use Rattle.std.proofs.Common.{◌≡◌, ◌+◌, length, option_map}
use Rattle.xk_lexer.specs.Lexing.{closing}
use Rattle.xk_lexer.proofs.scan.closing_at.Given as goal

abbrev pub invariant-loop-rest : goal.invariant-loop-rest
invariant-loop-rest l = record {
  so_far : option_map (λ k. l.len + k) (closing l.rest) ≡ closing l.text;
  room : l.len + length l.rest ≡ length l.text;
}

abbrev pub decreases-loop-rest : goal.decreases-loop-rest
decreases-loop-rest l = length l.rest
