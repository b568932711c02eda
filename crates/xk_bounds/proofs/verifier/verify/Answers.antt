-- what is accepted is so, and an accepted module is refused for want of memory alone
use Rattle.std.proofs.Common.{ap, sym, ◌∙◌, subst}
use Rattle.xk_types.specs.Code.{ModuleValue}
use Rattle.xk_types.specs.Bound.{IsWithinBounds}
use Rattle.xk_types.specs.Acceptance.{IsAccepted}
use Rattle.xk_typestate.specs.LeastRefusal.{IsNeverRefused}
use Rattle.xk_bounds.specs.Refusals.{Refuses, of_kinds}
use Rattle.xk_bounds.proofs.RefusalLemmas.{refused_by_memory}
use Rattle.xk_bounds.proofs.verifier.verify.Goals as goal

pub returns-in-Err-check_kinds-clause-never_wrongly : goal.returns-in-Err-check_kinds-clause-never_wrongly
returns-in-Err-check_kinds-clause-never_wrongly c = λ h.
    let accepted = subst IsAccepted (sym c.in-Ok.ensures.made.0) h in
    c.into-in-Err-check_kinds.ensures ∙ ap of_kinds (c.in-Err-check_kinds.ensures.never_wrongly accepted.kinds)

pub measure-requires-clause-kinds : goal.measure-requires-clause-kinds
measure-requires-clause-kinds c = subst IsNeverRefused (sym c.module.ensures.same) c.module.ensures.kinds

pub returns-in-Ok-measure-clause-accepted : goal.returns-in-Ok-measure-clause-accepted
returns-in-Ok-measure-clause-accepted c =
    let shaped = c.in-Ok.ensures.made in
    let typed = c.in-Ok-check_kinds.ensures.accepted in
    let same = c.module.ensures.same ∙ typed.0 ∙ shaped.0 in (
      typed.0 ∙ shaped.0,
      record { shape = shaped.1; kinds = subst IsNeverRefused shaped.0 typed.1; bounds = subst IsWithinBounds same c.in-Ok-measure.ensures.within.0 },
    )

pub returns-in-Err-measure-clause-never_wrongly : goal.returns-in-Err-measure-clause-never_wrongly
returns-in-Err-measure-clause-never_wrongly c = λ h.
    let same = c.module.ensures.same ∙ c.in-Ok-check_kinds.ensures.accepted.0 ∙ c.in-Ok.ensures.made.0 in
    refused_by_memory c.args.m c.in-Err-measure.refusal h (subst (λ (m : ModuleValue). Refuses m c.in-Err-measure.refusal) same c.in-Err-measure.ensures.refused)
