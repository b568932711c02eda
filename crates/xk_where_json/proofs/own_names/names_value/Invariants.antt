use Rattle.std.proofs.Common.{◌≡◌, map}
use Rattle.serde_json.specs.View.{view}
use Rattle.xk_show_events.specs.Worlds.{each_below}
use Rattle.xk_where_json.specs.Frames.{slot_items}
use Rattle.xk_where_json.proofs.own_names.names_value.Given as goal

-- the slots so far were added
abbrev pub invariant-loop-slot : goal.invariant-loop-slot
invariant-loop-slot l = map view l.values.items ≡ each_below (slot_items (map (λ x. x.now) l.names) l.code l.frames.frame.slots) l.slot
