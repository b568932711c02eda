use Rattle.std.proofs.Common.{◌≡◌, ◌++◌, map, drop}
use Rattle.std.specs.Prelude.{option_map}
use Rattle.serde_json.specs.View.{view}
use Rattle.xk_races_json.specs.Races.{race_value}
use Rattle.xk_races_json.proofs.races.list_of.Given as goal

-- the values so far and those of what is left are those of all
abbrev pub invariant-loop-pair : goal.invariant-loop-pair
invariant-loop-pair l =
    map view l.values.items ++ map (race_value l.places (option_map (λ n. n.now) l.names)) (drop l.pair-index l.pairs)
    ≡ map (race_value l.places (option_map (λ n. n.now) l.names)) l.pairs
