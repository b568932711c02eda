use Rattle.std.proofs.Common.{◌≡◌, ◌++◌, map}
use Rattle.std.specs.Prelude.{codes}
use Rattle.xk_listing.specs.Fields.{each_below, slot_item}
use Rattle.xk_listing.proofs.slots.push_slots.Given as goal

-- the slots so far were added
abbrev pub invariant-loop-slot : goal.invariant-loop-slot
invariant-loop-slot l = l.out.items ≡ (l.fn.out.items ++ codes "slots") ++ each_below (slot_item (map (λ x. x.now) l.names) l.taken) l.slot
