use Rattle.std.proofs.Common.{◌≡◌, ◌≤◌, length, get_or}
use Rattle.xk_outcomes.specs.Entries.{led_by}
use Rattle.xk_outcomes.specs.Found.{along, first_found}
use Rattle.xk_outcomes.specs.Ways.{ways_in}
use Rattle.xk_outcomes.proofs.entries.Entries.way_to.Given as goal

-- the steps of the way lead there from the one where it begins
abbrev pub invariant-loop-at : goal.invariant-loop-at
invariant-loop-at l = record {
  within : l.at ≤ length l.self-inside.edges.items;
  leads : along l.ranks.items (get_or (led_by (ways_in l.self-inside.ways.items) l.self-inside.start l.self-inside.edges.items) l.at
      (first_found l.self-inside.start))
      ≡ get_or (led_by (ways_in l.self-inside.ways.items) l.self-inside.start l.self-inside.edges.items) l.number
      (first_found l.self-inside.start);
}

abbrev pub decreases-loop-at : goal.decreases-loop-at
decreases-loop-at l = l.at
