-- how often the instructions so far are carried out
use Rattle.std.proofs.Common.{◌≡◌, ℕ, ◌<◌, length, slice_index}
use Rattle.xk_types.specs.Bound.{visits}
use Rattle.xk_explain_bounds.specs.Amounts.{kept}
use Rattle.xk_explain_bounds.proofs.visits.visits.Given as goal

abbrev pub invariant-loop-at : goal.invariant-loop-at
invariant-loop-at l = record {
  so_many : length l.counts.items ≡ l.at;
  each : (at : ℕ) → at < l.at → slice_index l.counts.items at ≡ kept (visits l.u at);
}
