-- what the units from this one on come to
use Rattle.std.proofs.Common.{◌≡◌, ℕ, ◌<◌, ◌≤◌, length, slice_index}
use Rattle.xk_explain_bounds.specs.Amounts.{comes_to, kept}
use Rattle.xk_explain_bounds.proofs.totals.totals.Given as goal

abbrev pub invariant-loop-unit : goal.invariant-loop-unit
invariant-loop-unit l =
    (length l.table.items ≡ length l.m.units)
    × ((t : ℕ) → l.unit ≤ t → t < length l.m.units → slice_index l.table.items t ≡ kept (comes_to l.subject l.m t))
