use Rattle.std.proofs.Common.{◌≡◌, ◌++◌, map, drop}
use Rattle.serde_json.specs.View.{view}
use Rattle.xk_span_json.specs.Phases.{last_value}
use Rattle.xk_span_json.proofs.phases.last_values.Given as goal

-- the values so far and those of what is left are those of all
abbrev pub invariant-loop-arrival : goal.invariant-loop-arrival
invariant-loop-arrival l = map view l.values.items ++ map (last_value l.places) (drop l.arrival-index l.came) ≡ map (last_value l.places) l.came
