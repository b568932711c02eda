-- the count so far, times the turns of the loops that are left
use Rattle.std.proofs.Common.{◌≡◌, ◌≤◌, ◌*◌, drop, filter}
use Rattle.xk_types.specs.Code.{is_round}
use Rattle.xk_types.specs.Bound.{product}
use Rattle.xk_explain_bounds.specs.Amounts.{kept}
use Rattle.xk_explain_bounds.proofs.visits.count_at.Given as goal

abbrev pub invariant-loop-l : goal.invariant-loop-l
invariant-loop-l l = record {
  so_far : kept (l.count * product (filter (is_round l.at) (drop l.l-index l.loops))) ≡ kept (product (filter (is_round l.at) l.loops));
  small : l.count ≤ 1000000000000000001;
}
