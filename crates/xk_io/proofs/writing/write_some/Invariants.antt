use Rattle.std.proofs.Common.{length, take, ◌*◌, ◌≡◌, ◌≤◌}
use Rattle.xk_io.specs.Lines.{number_lines}
use Rattle.xk_io.proofs.writing.write_some.Given as goal

-- the page has the lines of the numbers so far
abbrev pub invariant-loop-number : goal.invariant-loop-number
invariant-loop-number g l = record {
  lines : l.page ≡ number_lines (take l.number-index l.numbers);
  room : length l.page ≤ 21 * l.number-index;
}
