use Rattle.std.proofs.Common.{◌≡◌, take}
use Rattle.std.specs.List.{flat_map}
use Rattle.xk_listing.specs.Fields.{if_in}
use Rattle.xk_listing.proofs.slots.kinds_among.Given as goal

-- those so far that are in the set were added
abbrev pub invariant-loop-kind : goal.invariant-loop-kind
invariant-loop-kind l = l.kinds.items ≡ flat_map (if_in l.set) (take l.kind-index l.among)
