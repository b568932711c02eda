use Rattle.std.proofs.Common.{◌≡◌, ◌++◌, drop}
use Rattle.std.specs.List.{flat_map}
use Rattle.xk_explain_faults.specs.Faults.{finding_text}
use Rattle.xk_explain_faults.proofs.explanation.push_findings.Given as goal

-- what is said so far and what is to be said of the others
abbrev pub invariant-loop-finding : goal.invariant-loop-finding
invariant-loop-finding l =
    l.out.items ++ flat_map (finding_text l.file l.text) (drop l.finding-index l.findings)
    ≡ l.fn.out.items ++ flat_map (finding_text l.file l.text) l.findings
