use Rattle.std.proofs.Common.{◌≡◌, not, filter, take}
use Rattle.xk_why.specs.Flows.{overwrites}
use Rattle.xk_why.proofs.slices.left_by.Given as goal

-- those so far that it leaves
abbrev pub invariant-loop-location : goal.invariant-loop-location
invariant-loop-location l = l.list.items ≡ filter (λ x. not (overwrites l.flow x)) (take l.location-index l.wanted)
