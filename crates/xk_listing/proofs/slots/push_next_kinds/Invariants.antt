use Rattle.std.proofs.Common.{◌≡◌, ◌++◌, take}
use Rattle.std.specs.List.{flat_map}
use Rattle.xk_listing.specs.Fields.{next_kind}
use Rattle.xk_listing.proofs.slots.push_next_kinds.Given as goal

-- the kinds so far were added
abbrev pub invariant-loop-kind : goal.invariant-loop-kind
invariant-loop-kind l = l.out.items ≡ l.fn.out.items ++ flat_map next_kind (take l.kind-index l.kinds)
