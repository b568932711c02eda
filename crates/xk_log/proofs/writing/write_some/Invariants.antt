use Rattle.std.proofs.Common.{length, take, ◌*◌, ◌≡◌, ◌≤◌}
use Rattle.xk_log.specs.LogText.{entry_lines}
use Rattle.xk_log.proofs.writing.write_some.Given as goal

-- the page has the lines of the entries so far
abbrev pub invariant-loop-entry : goal.invariant-loop-entry
invariant-loop-entry g l = record {
  lines : l.page ≡ entry_lines (take l.entry-index l.entries);
  room : length l.page ≤ 42 * l.entry-index;
}
