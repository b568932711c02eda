use Rattle.std.proofs.Common.{◌≡◌, ◌++◌}
use Rattle.xk_listing.specs.Listing.{unit_text}
use Rattle.xk_listing.proofs.LineLemmas.{told_below}
use Rattle.xk_listing.proofs.listing.push_units.Given as goal

-- the units so far were added
abbrev pub invariant-loop-unit : goal.invariant-loop-unit
invariant-loop-unit l = l.out.items ≡ l.fn.out.items ++ told_below (unit_text l.known.source.now l.known.origins.now l.known.kinds.now) l.units l.unit
