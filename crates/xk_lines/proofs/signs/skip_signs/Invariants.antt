use Rattle.std.proofs.Common.{◌≡◌, drop}
use Rattle.xk_lines.specs.Signs.{signs}
use Rattle.xk_lines.proofs.signs.skip_signs.Given as goal

abbrev pub invariant-loop : goal.invariant-loop
invariant-loop l = signs l.rest ≡ drop l.counter (signs l.text)
