use Rattle.std.proofs.Common.{◌≡◌, ◌++◌, map, drop}
use Rattle.serde_json.specs.View.{view}
use Rattle.xk_show_span.specs.Phases.{nobody}
use Rattle.xk_span_json.specs.Phases.{phases_from}
use Rattle.xk_span_json.proofs.phases.phases_value.Given as goal

-- the phases so far, with those of the rest
abbrev pub invariant-loop-i : goal.invariant-loop-i
invariant-loop-i l =
    map view l.values.items ++ phases_from l.places l.times l.i l.known (drop l.i l.deeds) ≡ phases_from l.places l.times 0 nobody l.deeds
