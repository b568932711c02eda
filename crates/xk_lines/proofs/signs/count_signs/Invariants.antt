use Rattle.std.proofs.Common.{◌≡◌, ◌≤◌, ◌+◌, length}
use Rattle.xk_lines.specs.Signs.{signs}
use Rattle.xk_lines.proofs.signs.count_signs.Given as goal

abbrev pub invariant-loop-after : goal.invariant-loop-after
invariant-loop-after l = record {
  so_far : l.count + length (signs l.rest) ≡ length (signs l.text);
  room : l.count + length l.rest ≤ length l.text;
}

abbrev pub decreases-loop-after : goal.decreases-loop-after
decreases-loop-after l = length l.rest
