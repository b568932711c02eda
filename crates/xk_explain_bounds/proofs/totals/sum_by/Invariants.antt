-- the sum so far, and that of the instructions that are left
use Rattle.std.proofs.Common.{◌≡◌, ◌≤◌, ◌+◌, drop, slice_index}
use Rattle.xk_types.specs.Bound.{sum_from}
use Rattle.xk_bounds.specs.Measure.{added_at, added_by}
use Rattle.xk_explain_bounds.specs.Amounts.{kept, weight_of}
use Rattle.xk_explain_bounds.proofs.totals.sum_by.Given as goal

abbrev pub invariant-loop-at : goal.invariant-loop-at
invariant-loop-at l = record {
  so_far : kept (l.sum + sum_from (added_at (weight_of l.subject) (slice_index l.table) l.u) l.at (drop l.at l.u.code))
      ≡ kept (added_by (weight_of l.subject) (slice_index l.table) l.u);
  small : l.sum ≤ 1000000000000000001;
}
