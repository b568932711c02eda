use Rattle.std.proofs.Common.{◌≡◌, map}
use Rattle.serde_json.specs.View.{view}
use Rattle.xk_show_events.specs.Worlds.{each_below}
use Rattle.xk_where_json.specs.Standings.{registration_items}
use Rattle.xk_where_json.proofs.acts.registrations_value.Given as goal

-- the clocks so far were added
abbrev pub invariant-loop-clock : goal.invariant-loop-clock
invariant-loop-clock l = map view l.values.items ≡ each_below (registration_items l.core.world l.act) l.clock
