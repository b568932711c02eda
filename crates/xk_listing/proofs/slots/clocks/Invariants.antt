use Rattle.std.proofs.Common.{◌≡◌, map}
use Rattle.xk_listing.specs.Fields.{clocks_field}
use Rattle.xk_listing.proofs.slots.clocks.Given as goal

-- the slots so far were told
abbrev pub invariant-loop-slot : goal.invariant-loop-slot
invariant-loop-slot l = l.out.items ≡ clocks_field (map (λ x. x.now) l.slots.names.now) l.slots.tables.now l.slots.unit l.at l.slot
