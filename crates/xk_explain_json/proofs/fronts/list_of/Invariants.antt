use Rattle.std.proofs.Common.{◌≡◌, ◌++◌, map, drop}
use Rattle.serde_json.specs.View.{view}
use Rattle.xk_explain_json.specs.Explanations.{finding_value}
use Rattle.xk_explain_json.proofs.fronts.list_of.Given as goal

-- the values so far and those of what is left are those of all
abbrev pub invariant-loop-finding : goal.invariant-loop-finding
invariant-loop-finding l =
    map view l.values.items ++ map (finding_value l.file l.source) (drop l.finding-index l.findings)
    ≡ map (finding_value l.file l.source) l.findings
