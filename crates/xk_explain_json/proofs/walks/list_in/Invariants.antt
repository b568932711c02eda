use Rattle.std.proofs.Common.{◌≡◌, ◌++◌, map, drop}
use Rattle.serde_json.specs.View.{view}
use Rattle.xk_explain_json.specs.Explanations.{stop_in}
use Rattle.xk_explain_json.proofs.walks.list_in.Given as goal

-- the values so far and those of what is left are those of all
abbrev pub invariant-loop-visit : goal.invariant-loop-visit
invariant-loop-visit l = map view l.values.items ++ map (stop_in l.source l.unit) (drop l.visit-index l.walk) ≡ map (stop_in l.source l.unit) l.walk
