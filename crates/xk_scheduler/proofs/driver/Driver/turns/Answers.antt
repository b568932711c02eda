use Rattle.std.proofs.Common.{◌≡◌, ◌∙◌, ◌%◌, true, false, length, refl, sym, ap, subst, arith, slice_get, Some}
use Rattle.xk_types.specs.Schedule.{all_ended, is_enabled}
use Rattle.xk_core.specs.Core.{CoreValue, StepsTo, WantsMemory}
use Rattle.xk_scheduler.specs.Choosers.{Names, enabled_in, IsSteadyOn}
use Rattle.xk_scheduler.specs.LocalRuns.{IsStretch}
use Rattle.xk_scheduler.proofs.EnabledSetLemmas.{going, listed_few, listed_enabled, over_is, on_err, core_few}
use Rattle.xk_scheduler.proofs.LocalRunLemmas.{GoesAlone, named_still, stretch_of, stretch_none}
use Rattle.xk_scheduler.proofs.driver.Driver.turns.Goals as goal

pub returns-then-is_empty-clause-gone : goal.returns-then-is_empty-clause-gone
returns-then-is_empty-clause-gone g c =
    let d = c.self.inside in
    record {
      count = 0;
      between = c.args.self.now;
      left = c.args.chooser.now;
      stretch = stretch_none g.C.Chooser.answer g.C.Chooser.after c.args.self.now c.args.chooser.now;
      turn = (
        subst (λ (v : CoreValue). all_ended v.world ≡ true) c.self.view_is
            (sym (over_is d.core.module_run d.core.world d.roster.members (length c.enabled.result.now.members) c.self.invariant.core c.self.invariant.list_is (ap length c.enabled.ensures))
            ∙ sym c.is_empty.ensures ∙ c.if-is_empty.true),
        refl,
        refl,
      );
    }

pub pick-act-requires-clause-few : goal.pick-act-requires-clause-few
pick-act-requires-clause-few g c =
    let d = c.self.inside in
    omega (
      arith,
      ap length c.self.invariant.list_is,
      listed_few d.core.module_run d.core.world,
      core_few d.core.module_run d.core.world c.self.invariant.core,
      c.self.invariant.roomy,
    )

pub step-requires : goal.step-requires
step-requires g c =
    let d = c.self.inside in
    let answer = g.C.Chooser.answer c.args.chooser.now in
    listed_enabled d.core.module_run d.core.world _ c.pick-act.result
    (subst (λ l. slice_get l (answer l % length l) ≡ Some c.pick-act.result) c.self.invariant.list_is c.pick-act.ensures.picked)

pub returns-in_err-event-clause-refused : goal.returns-in_err-event-clause-refused
returns-in_err-event-clause-refused g c =
    let d = c.self.inside in
    let answer = g.C.Chooser.answer c.args.chooser.now in
    on_err c.from_residual.result _ (record {
      count = 0;
      between = c.args.self.now;
      left = c.args.chooser.now;
      stretch = stretch_none g.C.Chooser.answer g.C.Chooser.after c.args.self.now c.args.chooser.now;
      refused = record {
        same = c.in_err-event.ensures.refused ∙ c.self.view_is;
        goes_on = subst (λ (v : CoreValue). all_ended v.world ≡ false) c.self.view_is
            (sym (over_is d.core.module_run d.core.world d.roster.members (length c.enabled.result.now.members) c.self.invariant.core c.self.invariant.list_is (ap length c.enabled.ensures))
            ∙ sym c.is_empty.ensures ∙ c.if-is_empty.false);
        asked = c.pick-act.ensures.goes_on ∙ ap (g.C.Chooser.after c.args.chooser.now)
            (c.self.invariant.list_is ∙ ap (λ (v : CoreValue). enabled_in v.module_run v.world) c.self.view_is);
        wants = record {
          act = c.pick-act.result;
          named = subst (λ (v : CoreValue). Names g.C.Chooser.answer v.module_run c.args.chooser.now v.world c.pick-act.result) c.self.view_is
              (subst (λ l. slice_get l (answer l % length l) ≡ Some c.pick-act.result) c.self.invariant.list_is c.pick-act.ensures.picked);
          grows = subst (λ (v : CoreValue). WantsMemory v c.pick-act.result) c.self.view_is c.in_err-event.ensures.only_where_it_grows;
        };
      };
    })

pub returns-then-not-goes_ahead-clause-gone : goal.returns-then-not-goes_ahead-clause-gone
returns-then-not-goes_ahead-clause-gone g c =
    let answer = g.C.Chooser.answer c.args.chooser.now in
    record {
      count = 0;
      between = c.args.self.now;
      left = c.args.chooser.now;
      stretch = stretch_none g.C.Chooser.answer g.C.Chooser.after c.args.self.now c.args.chooser.now;
      turn = record {
        chosen = subst (λ (v : CoreValue). Names g.C.Chooser.answer v.module_run c.args.chooser.now v.world c.pick-act.result) c.self.view_is
            (subst (λ l. slice_get l (answer l % length l) ≡ Some c.pick-act.result) c.self.invariant.list_is c.pick-act.ensures.picked);
        stepped = subst (λ (v : CoreValue). StepsTo v c.pick-act.result c.step.new.self c.in_ok-event.event) c.self.view_is c.in_ok-event.ensures.stepped;
        same_module = c.in_ok-event.ensures.same_module ∙ ap (λ (v : CoreValue). v.module_run) c.self.view_is;
        goes_on = c.pick-act.ensures.goes_on ∙ ap (g.C.Chooser.after c.args.chooser.now)
            (c.self.invariant.list_is ∙ ap (λ (v : CoreValue). enabled_in v.module_run v.world) c.self.view_is);
      };
    }

pub run-steps-requires : goal.run-steps-requires
run-steps-requires g c =
    let d = c.self.inside in
    let answer = g.C.Chooser.answer c.args.chooser.now in
    listed_enabled d.core.module_run d.core.world _ c.pick-act.result
    (subst (λ l. slice_get l (answer l % length l) ≡ Some c.pick-act.result) c.self.invariant.list_is c.pick-act.ensures.picked)

pub returns-in_err-turn-clause-refused : goal.returns-in_err-turn-clause-refused
returns-in_err-turn-clause-refused g c =
    let d = c.self.inside in
    let answer = g.C.Chooser.answer in
    let after = g.C.Chooser.after in
    let s = c.args.chooser.now in
    let act = c.pick-act.result in
    let named : Names answer d.core.module_run s d.core.world act =
    subst (λ l. slice_get l (answer s l % length l) ≡ Some act) c.self.invariant.list_is c.pick-act.ensures.picked in
    let steady : IsSteadyOn after s (enabled_in d.core.module_run d.core.world) =
    subst (IsSteadyOn after s) (c.enabled-2.ensures ∙ c.self.invariant.list_is) (c.is_steady-is_steady.ensures (c.goes_ahead.ensures.steady c.if-not-goes_ahead.false)) in
    on_err c.from_residual-in_err-turn.result _ (record {
      count = c.run-steps.result.0;
      between = c.run-steps.new.self;
      left = c.pick-act.new.chooser;
      stretch = subst (λ (v : CoreValue). IsStretch answer after v s c.run-steps.result.0 c.run-steps.new.self c.pick-act.new.chooser) c.self.view_is
          (stretch_of answer after d.core c.run-steps.new.self s c.pick-act.new.chooser act c.run-steps.result.0 steady c.self.invariant.core named
          c.run-steps.ensures.ran c.run-steps.ensures.local c.run-steps.ensures.unseen c.run-steps.ensures.same_module
          (c.pick-act.ensures.goes_on ∙ ap (after s) c.self.invariant.list_is));
      refused = c.in_err-turn.ensures.refused;
    })

pub returns-clause-gone : goal.returns-clause-gone
returns-clause-gone g c =
    let d = c.self.inside in
    let answer = g.C.Chooser.answer in
    let after = g.C.Chooser.after in
    let s = c.args.chooser.now in
    let act = c.pick-act.result in
    let named : Names answer d.core.module_run s d.core.world act =
    subst (λ l. slice_get l (answer s l % length l) ≡ Some act) c.self.invariant.list_is c.pick-act.ensures.picked in
    let steady : IsSteadyOn after s (enabled_in d.core.module_run d.core.world) =
    subst (IsSteadyOn after s) (c.enabled-2.ensures ∙ c.self.invariant.list_is) (c.is_steady-is_steady.ensures (c.goes_ahead.ensures.steady c.if-not-goes_ahead.false)) in
    record {
      count = c.run-steps.result.0;
      between = c.run-steps.new.self;
      left = c.pick-act.new.chooser;
      stretch = subst (λ (v : CoreValue). IsStretch answer after v s c.run-steps.result.0 c.run-steps.new.self c.pick-act.new.chooser) c.self.view_is
          (stretch_of answer after d.core c.run-steps.new.self s c.pick-act.new.chooser act c.run-steps.result.0 steady c.self.invariant.core named
          c.run-steps.ensures.ran c.run-steps.ensures.local c.run-steps.ensures.unseen c.run-steps.ensures.same_module
          (c.pick-act.ensures.goes_on ∙ ap (after s) c.self.invariant.list_is));
      turn = c.in_ok-turn.ensures.taken;
    }

pub returns-in_err-event-2-clause-refused : goal.returns-in_err-event-2-clause-refused
returns-in_err-event-2-clause-refused g c =
    let d = c.self.inside in
    let answer = g.C.Chooser.answer in
    let after = g.C.Chooser.after in
    let s = c.args.chooser.now in
    let act = c.pick-act.result in
    let named : Names answer d.core.module_run s d.core.world act =
    subst (λ l. slice_get l (answer s l % length l) ≡ Some act) c.self.invariant.list_is c.pick-act.ensures.picked in
    let steady : IsSteadyOn after s (enabled_in d.core.module_run d.core.world) =
    subst (IsSteadyOn after s) (c.enabled-2.ensures ∙ c.self.invariant.list_is) (c.is_steady-is_steady.ensures (c.goes_ahead.ensures.steady c.if-not-goes_ahead.false)) in
    let left = c.pick-act.ensures.goes_on ∙ ap (after s) c.self.invariant.list_is in
    let alone : GoesAlone d.core.module_run act c.run-steps.result.0 d.core.world c.run-steps.new.self.world =
    record { leads = c.run-steps.ensures.ran; local = c.run-steps.ensures.local } in
    let can : is_enabled c.run-steps.new.self.module_run c.run-steps.new.self.world act ≡ true = sym c.run-steps.ensures.can ∙ c.if-can_go_on.true in
    let again = named_still answer after d.core.module_run c.run-steps.new.self.module_run d.core.world c.run-steps.new.self.world s c.pick-act.new.chooser act c.run-steps.result.0
    steady c.self.invariant.core alone c.run-steps.ensures.same_module left (listed_enabled d.core.module_run d.core.world _ act named) can named
    in on_err c.from_residual-in_err-event-2.result _ (record {
      count = c.run-steps.result.0;
      between = c.run-steps.new.self;
      left = c.pick-act.new.chooser;
      stretch = subst (λ (v : CoreValue). IsStretch answer after v s c.run-steps.result.0 c.run-steps.new.self c.pick-act.new.chooser) c.self.view_is
          (stretch_of answer after d.core c.run-steps.new.self s c.pick-act.new.chooser act c.run-steps.result.0 steady c.self.invariant.core named
          c.run-steps.ensures.ran c.run-steps.ensures.local c.run-steps.ensures.unseen c.run-steps.ensures.same_module left);
      refused = record {
        same = c.in_err-event-2.ensures.refused;
        goes_on = going c.run-steps.new.self.module_run c.run-steps.new.self.world act can;
        asked = again.1;
        wants = record { act = act; named = again.0; grows = c.in_err-event-2.ensures.only_where_it_grows };
      };
    })

pub returns-then-can_go_on-clause-gone : goal.returns-then-can_go_on-clause-gone
returns-then-can_go_on-clause-gone g c =
    let d = c.self.inside in
    let answer = g.C.Chooser.answer in
    let after = g.C.Chooser.after in
    let s = c.args.chooser.now in
    let act = c.pick-act.result in
    let named : Names answer d.core.module_run s d.core.world act =
    subst (λ l. slice_get l (answer s l % length l) ≡ Some act) c.self.invariant.list_is c.pick-act.ensures.picked in
    let steady : IsSteadyOn after s (enabled_in d.core.module_run d.core.world) =
    subst (IsSteadyOn after s) (c.enabled-2.ensures ∙ c.self.invariant.list_is) (c.is_steady-is_steady.ensures (c.goes_ahead.ensures.steady c.if-not-goes_ahead.false)) in
    let left = c.pick-act.ensures.goes_on ∙ ap (after s) c.self.invariant.list_is in
    let alone : GoesAlone d.core.module_run act c.run-steps.result.0 d.core.world c.run-steps.new.self.world =
    record { leads = c.run-steps.ensures.ran; local = c.run-steps.ensures.local } in
    let can : is_enabled c.run-steps.new.self.module_run c.run-steps.new.self.world act ≡ true = sym c.run-steps.ensures.can ∙ c.if-can_go_on.true in
    let again = named_still answer after d.core.module_run c.run-steps.new.self.module_run d.core.world c.run-steps.new.self.world s c.pick-act.new.chooser act c.run-steps.result.0
    steady c.self.invariant.core alone c.run-steps.ensures.same_module left (listed_enabled d.core.module_run d.core.world _ act named) can named
    in record {
      count = c.run-steps.result.0;
      between = c.run-steps.new.self;
      left = c.pick-act.new.chooser;
      stretch = subst (λ (v : CoreValue). IsStretch answer after v s c.run-steps.result.0 c.run-steps.new.self c.pick-act.new.chooser) c.self.view_is
          (stretch_of answer after d.core c.run-steps.new.self s c.pick-act.new.chooser act c.run-steps.result.0 steady c.self.invariant.core named
          c.run-steps.ensures.ran c.run-steps.ensures.local c.run-steps.ensures.unseen c.run-steps.ensures.same_module left);
      turn = record {
        chosen = again.0;
        stepped = c.in_ok-event-2.ensures.stepped;
        same_module = c.in_ok-event-2.ensures.same_module;
        goes_on = again.1;
      };
    }
