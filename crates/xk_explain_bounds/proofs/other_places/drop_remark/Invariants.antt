-- of the stops that are left, behind the one found, the last is that of all
use Rattle.std.proofs.Common.{◌≡◌, None, drop}
use Rattle.xk_explain_bounds.specs.OtherPlaces.{last_drop}
use Rattle.xk_explain_bounds.proofs.other_places.drop_remark.Given as goal

abbrev pub invariant-loop-visit : goal.invariant-loop-visit
invariant-loop-visit l =
    last_drop l.u l.fault.slot l.found (drop l.visit-index l.fault.walk.items) ≡ last_drop l.u l.fault.slot None l.fault.walk.items
