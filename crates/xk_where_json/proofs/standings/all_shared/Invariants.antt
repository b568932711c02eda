use Rattle.std.proofs.Common.{◌≡◌, map}
use Rattle.serde_json.specs.View.{view}
use Rattle.xk_show_events.specs.Worlds.{each_below}
use Rattle.xk_where_json.specs.Standings.{shared_items}
use Rattle.xk_where_json.proofs.standings.all_shared.Given as goal

-- the shared numbers so far were added
abbrev pub invariant-loop-number : goal.invariant-loop-number
invariant-loop-number l = map view l.values.items ≡ each_below (shared_items (map (λ x. x.now) l.shared) l.cells) l.number
