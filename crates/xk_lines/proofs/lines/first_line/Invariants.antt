use Rattle.std.proofs.Common.{◌≡◌, ◌+◌, length}
use Rattle.xk_lines.specs.Lines.{first_line}
use Rattle.xk_lines.proofs.lines.first_line.Given as goal

abbrev pub invariant-loop-rest : goal.invariant-loop-rest
invariant-loop-rest l = record {
  so_far : l.len + length (first_line l.rest) ≡ length (first_line l.text);
  room : l.len + length l.rest ≡ length l.text;
}

abbrev pub decreases-loop-rest : goal.decreases-loop-rest
decreases-loop-rest l = length l.rest
