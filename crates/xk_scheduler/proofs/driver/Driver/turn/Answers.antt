use Rattle.std.proofs.Common.{◌≡◌, ◌∙◌, ◌%◌, true, false, length, refl, sym, ap, subst, arith, slice_get, Some}
use Rattle.xk_types.specs.Schedule.{all_ended}
use Rattle.xk_core.specs.Core.{CoreValue, WantsMemory}
use Rattle.xk_scheduler.specs.Choosers.{Names, enabled_in}
use Rattle.xk_scheduler.proofs.EnabledSetLemmas.{listed_few, listed_enabled, over_is, on_err, core_few}
use Rattle.xk_scheduler.proofs.driver.Driver.turn.Goals as goal

pub returns-then-is_empty-clause-taken : goal.returns-then-is_empty-clause-taken
returns-then-is_empty-clause-taken g c =
    let d = c.self.inside in (
      subst (λ (v : CoreValue). all_ended v.world ≡ true) c.self.view_is
          (sym (over_is d.core.module_run d.core.world d.roster.members (length c.enabled.result.now.members) c.self.invariant.core c.self.invariant.list_is (ap length c.enabled.ensures))
          ∙ sym c.is_empty.ensures ∙ c.if-is_empty.true),
      refl,
      refl,
    )

pub pick-act-requires-clause-few : goal.pick-act-requires-clause-few
pick-act-requires-clause-few g c =
    let d = c.self.inside in
    omega (
      arith,
      ap length c.self.invariant.list_is,
      listed_few d.core.module_run d.core.world,
      core_few d.core.module_run d.core.world c.self.invariant.core,
      c.self.invariant.roomy,
    )

pub step-requires : goal.step-requires
step-requires g c =
    let d = c.self.inside in
    let answer = g.C.Chooser.answer c.args.chooser.now in
    listed_enabled d.core.module_run d.core.world _ c.pick-act.result
    (subst (λ l. slice_get l (answer l % length l) ≡ Some c.pick-act.result) c.self.invariant.list_is c.pick-act.ensures.picked)

pub returns-in_err-event-clause-refused : goal.returns-in_err-event-clause-refused
returns-in_err-event-clause-refused g c =
    let d = c.self.inside in
    let answer = g.C.Chooser.answer c.args.chooser.now in
    on_err c.from_residual.result _ (record {
      same = c.in_err-event.ensures.refused ∙ c.self.view_is;
      goes_on = subst (λ (v : CoreValue). all_ended v.world ≡ false) c.self.view_is
          (sym (over_is d.core.module_run d.core.world d.roster.members (length c.enabled.result.now.members) c.self.invariant.core c.self.invariant.list_is (ap length c.enabled.ensures))
          ∙ sym c.is_empty.ensures ∙ c.if-is_empty.false);
      asked = c.pick-act.ensures.goes_on ∙ ap (g.C.Chooser.after c.args.chooser.now)
          (c.self.invariant.list_is ∙ ap (λ (v : CoreValue). enabled_in v.module_run v.world) c.self.view_is);
      wants = record {
        act = c.pick-act.result;
        named = subst (λ (v : CoreValue). Names g.C.Chooser.answer v.module_run c.args.chooser.now v.world c.pick-act.result) c.self.view_is
            (subst (λ l. slice_get l (answer l % length l) ≡ Some c.pick-act.result) c.self.invariant.list_is c.pick-act.ensures.picked);
        grows = subst (λ (v : CoreValue). WantsMemory v c.pick-act.result) c.self.view_is c.in_err-event.ensures.only_where_it_grows;
      };
    })
