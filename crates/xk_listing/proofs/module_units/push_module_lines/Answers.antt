-- line after line
use Rattle.xk_listing.specs.Listing.{module_line}
use Rattle.xk_listing.proofs.LineLemmas.{one_more}
use Rattle.xk_listing.proofs.module_units.push_module_lines.Goals as goal

pub loop-at-preserved : goal.loop-at-preserved
loop-at-preserved c =
    let u = c.args.u.now in
    one_more (module_line u.kinds.now u.number u.unit.now.slots) c.args.code.now _ _ _ c.loop-at.at _ c.loop-at-test.true c.index-code-at.is c.loop-at.invariant
    c.in_ok-push_module_line.ensures
