use Rattle.std.proofs.Common.{◌≡◌, ◌++◌, map, drop}
use Rattle.serde_json.specs.View.{view}
use Rattle.xk_span_json.specs.Span.{stretch_value}
use Rattle.xk_span_json.proofs.path.stretch_values.Given as goal

-- the values so far and those of what is left are those of all
abbrev pub invariant-loop-stretch : goal.invariant-loop-stretch
invariant-loop-stretch l =
    map view l.values.items ++ map (stretch_value l.places) (drop l.stretch-index l.list) ≡ map (stretch_value l.places) l.list
