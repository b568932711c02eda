use Rattle.std.proofs.Common.{◌≡◌, ◌++◌, Some, drop, map, slice_get}
use Rattle.xk_numbering.specs.Views.{part}
use Rattle.xk_numbering.proofs.unit_order.parts_at.Given as goal

abbrev pub invariant-loop-i : goal.invariant-loop-i
invariant-loop-i l = map Some (map part l.units.items) ++ map (slice_get (map part l.parts)) (drop l.i-index l.order) ≡ map (slice_get (map part l.parts)) l.order
