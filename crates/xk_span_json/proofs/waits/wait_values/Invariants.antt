use Rattle.std.proofs.Common.{◌≡◌, ◌++◌, map, drop}
use Rattle.serde_json.specs.View.{view}
use Rattle.xk_span_json.specs.Span.{wait_value}
use Rattle.xk_span_json.proofs.waits.wait_values.Given as goal

-- the values so far and those of what is left are those of all
abbrev pub invariant-loop-wait : goal.invariant-loop-wait
invariant-loop-wait l = map view l.values.items ++ map (wait_value l.places) (drop l.wait-index l.waits) ≡ map (wait_value l.places) l.waits
