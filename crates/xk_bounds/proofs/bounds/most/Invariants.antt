-- the sums of the units from this one on, cut
use Rattle.std.proofs.Common.{◌≡◌, ℕ, ◌<◌, ◌≤◌, min, length, slice_index}
use Rattle.xk_types.specs.Bound.{total}
use Rattle.xk_bounds.specs.declared.bounds.TheConstants.{CUT}
use Rattle.xk_bounds.specs.Measure.{weight_of}
use Rattle.xk_bounds.proofs.bounds.most.Given as goal

abbrev pub invariant-loop-unit : goal.invariant-loop-unit
invariant-loop-unit l =
    (length l.table.items ≡ length l.m.units)
    × ((t : ℕ) → l.unit ≤ t → t < length l.m.units → slice_index l.table.items t ≡ min (total (weight_of l.counted) l.m t) CUT)
