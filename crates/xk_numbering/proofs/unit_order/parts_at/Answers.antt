use Rattle.std.proofs.Common.{◌∙◌, get_or}
use Rattle.std.proofs.lemmas.Option.{slice_get-get_or}
use Rattle.xk_numbering.proofs.ListLemmas.{one_more_part}
use Rattle.xk_numbering.proofs.unit_order.parts_at.Goals as goal

pub loop-i-preserved : goal.loop-i-preserved
loop-i-preserved c =
    let i = c.loop-i.i-index in
    one_more_part c.args.parts.now c.loop-i.units.items c.add_part.new.found.items c.args.order.now i c.index-parts-i.result c.loop-i-test.true
    (c.requires i (get_or c.args.order.now i 0) (slice_get-get_or c.args.order.now i 0 c.loop-i-test.true)) c.index-parts-i.is c.in_ok-add_part.ensures.items
    ∙ c.loop-i.invariant
