-- unit after unit
use Rattle.xk_listing.specs.Listing.{unit_text}
use Rattle.xk_listing.proofs.LineLemmas.{one_more}
use Rattle.xk_listing.proofs.listing.push_units.Goals as goal

pub loop-unit-preserved : goal.loop-unit-preserved
loop-unit-preserved c =
    let known = c.args.known.now in
    one_more (unit_text known.source.now known.origins.now known.kinds.now) c.args.units.now _ _ _ c.loop-unit.unit _ c.loop-unit-test.true c.index-units-unit.is
    c.loop-unit.invariant c.in_ok-push_unit.ensures
