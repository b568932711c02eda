use Rattle.std.proofs.Common.{map, arith}
use Rattle.serde_json.specs.View.{view}
use Rattle.xk_where_json.proofs.ItemLemmas.{slot_past}
use Rattle.xk_where_json.proofs.own_names.push_slot.Goals as goal

pub returns-then-slot-slot_count : goal.returns-then-slot-slot_count
returns-then-slot-slot_count c =
    slot_past (map (λ x. x.now) c.args.names.now) c.args.code.now c.args.frames.now.frame.slots c.args.slot (map view c.args.values.now.items)
    (omega (arith, c.slot_count.ensures, c.if-slot-slot_count.true))
