-- The lines are those of this run.
use Rattle.std.proofs.Common.{◌≡◌, ◌∙◌, ℕ, List, IfOk, string_bytes, subst}
use Rattle.xk_why.proofs.LineLemmas.{same_lines}
use Rattle.xk_why.proofs.report.source_why.Goals as goal

pub returns : goal.returns
returns c =
    let named = rw (c.of.ensures.module, c.of.ensures.log, c.of.ensures.core) at c.in_ok-names.ensures in
    subst (λ (t : List ℕ). IfOk c.why_lines.result (λ lines. string_bytes lines ≡ t))
    (same_lines c.in_ok-places.places _ c.in_ok-names.names _ c.deref.result.now _ c.args.number c.deref-2.result.now _
    c.in_ok-places.ensures named (c.deref.ensures.value ∙ c.in_ok-steps.ensures)
    (c.deref-2.ensures.value ∙ c.in_ok-rest.ensures))
    c.why_lines.ensures
