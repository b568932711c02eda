-- the instructions that are left decide
use Rattle.std.proofs.Common.{◌≡◌, drop}
use Rattle.xk_explain_bounds.specs.OtherPlaces.{first_elsewhere}
use Rattle.xk_explain_bounds.proofs.other_places.first_elsewhere.Given as goal

abbrev pub invariant-loop-at : goal.invariant-loop-at
invariant-loop-at l = first_elsewhere l.u l.slot l.block 0 l.code ≡ first_elsewhere l.u l.slot l.block l.at (drop l.at l.code)
