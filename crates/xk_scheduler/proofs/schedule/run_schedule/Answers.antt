use Rattle.std.proofs.Common.{◌≡◌, ◌++◌, ◌∙◌, false, refl, subst, sym, ap, get_or, arith, inl, inr}
use Rattle.std.proofs.lemmas.Bool.{false≢true}
use Rattle.std.proofs.lemmas.Option.{slice_get-get_or}
use Rattle.xk_types.specs.Step.{Stepped, step}
use Rattle.xk_types.specs.Schedule.{is_enabled}
use Rattle.xk_core.specs.Core.{CoreValue, IsAboutToGrow}
use Rattle.xk_scheduler.specs.Schedules.{shown, LeadsPart}
use Rattle.xk_scheduler.proofs.ScheduleLemmas.{leads_more, shows_more, first_there, stop_not_legal}
use Rattle.xk_scheduler.proofs.schedule.run_schedule.Goals as goal

pub loop-at-preserved : goal.loop-at-preserved
loop-at-preserved c =
    let before = c.loop-at.invariant in
    let stepped : step c.args.start.module_run c.loop-at.core.world (get_or c.args.schedule.now c.loop-at.at 0) ≡ Stepped c.step.new.self.world c.in-Ok-step.event =
    subst (λ m. step m c.loop-at.core.world (get_or c.args.schedule.now c.loop-at.at 0) ≡ Stepped c.step.new.self.world c.in-Ok-step.event) before.0
    c.in-Ok-step.ensures.stepped in (
      c.in-Ok-step.ensures.same_module ∙ before.0,
      leads_more c.args.start.module_run c.args.schedule.now c.args.start.world c.loop-at.core.world c.step.new.self.world c.loop-at.at 0 c.in-Ok-step.event
          (omega arith) before.1 stepped,
      c.note.ensures.items ∙ ap (λ l. l ++ shown c.in-Ok-step.event) before.2
          ∙ sym (shows_more c.args.start.module_run c.args.schedule.now c.args.start.world c.loop-at.core.world c.step.new.self.world c.loop-at.at 0
          c.in-Ok-step.event (omega arith) before.1 stepped),
      omega (arith, before.3, c.note.ensures.room),
      omega (arith, before.4, c.note.ensures.length),
    )

pub returns-in_default-clause-halted : goal.returns-in_default-clause-halted
returns-in_default-clause-halted c =
    let first = first_there c.args.schedule.now (λ none. false≢true (c.in_default.ensures.succeeds none)) in
    (refl, (refl, first.0, first.1, inl refl))

pub returns-in_default-step-clause-halted : goal.returns-in_default-step-clause-halted
returns-in_default-step-clause-halted c =
    let before = c.loop-at.invariant in
    let a = get_or c.args.schedule.now c.loop-at.at 0 in (
      c.in_default-step.ensures.same_module ∙ before.0,
      (
        subst (λ (v : CoreValue). LeadsPart c.args.start.module_run c.args.schedule.now c.args.start.world c.loop-at.at v.world) (sym c.in_default-step.ensures.refused) before.1,
        a,
        slice_get-get_or c.args.schedule.now c.loop-at.at 0 (omega arith),
        inr (subst (λ (v : CoreValue). IsAboutToGrow c.args.start.module_run v.world a) (sym c.in_default-step.ensures.refused)
            (subst (λ m. IsAboutToGrow m c.loop-at.core.world a) before.0 c.in_default-step.ensures.only_where_it_grows)),
      ),
    )

pub returns-then-not-enabled-clause-never_wrongly : goal.returns-then-not-enabled-clause-never_wrongly
returns-then-not-enabled-clause-never_wrongly c w through =
    let before = c.loop-at.invariant in
    let m = c.args.start.module_run in
    let list = c.args.schedule.now in
    let a = get_or list c.loop-at.at 0 in
    let there = slice_get-get_or list c.loop-at.at 0 (omega arith) in
    let blocked = subst (λ k. is_enabled k c.loop-at.core.world a ≡ false) before.0 (sym c.enabled.ensures ∙ c.if-not-enabled.true) in
    stop_not_legal m list c.loop-at.at c.args.start.world c.loop-at.core.world w (before.1, a, there, blocked) through
