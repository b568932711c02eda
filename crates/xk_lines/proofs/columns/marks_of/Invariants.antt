-- the marks so far
use Rattle.std.proofs.Common.{◌≡◌, ℕ, ◌*◌, ◌<◌, ◌≤◌, length, take, slice_index}
use Rattle.xk_lines.specs.Lines.{columns}
use Rattle.xk_lines.proofs.columns.marks_of.Given as goal

abbrev pub invariant-loop-k : goal.invariant-loop-k
invariant-loop-k l = record {
  so_many : length l.marks.items ≡ l.k;
  each : (k : ℕ) → k < l.k → slice_index l.marks.items k ≡ columns (take (k * 64) l.text);
  seen : l.seen ≡ columns (take (l.k * 64) l.text);
  small : l.seen ≤ l.k * 64;
}
