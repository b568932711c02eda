use Rattle.std.proofs.Common.{◌≡◌, ◌++◌, take, drop}
use Rattle.xk_lines.specs.Signs.{signs, shown_signs}
use Rattle.xk_lines.proofs.signs.push_signs.Given as goal

-- the signs so far are shown
abbrev pub invariant-loop : goal.invariant-loop
invariant-loop l = record {
  left : signs l.rest ≡ drop l.counter (signs l.text);
  so_far : l.shown.items ≡ l.fn.shown.items ++ shown_signs (take l.counter (signs l.text));
}
