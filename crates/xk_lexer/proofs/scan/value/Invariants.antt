use Rattle.std.proofs.Common.{◌≡◌, length}
use Rattle.xk_lexer.specs.Pieces.{decimal}
use Rattle.xk_lexer.proofs.scan.value.Given as goal

abbrev pub invariant-loop-rest : goal.invariant-loop-rest
invariant-loop-rest l = decimal l.value l.rest ≡ decimal 0 l.digits

abbrev pub decreases-loop-rest : goal.decreases-loop-rest
decreases-loop-rest l = length l.rest
