use Rattle.std.proofs.Common.{◌≡◌, inr, true, false, ◌∙◌, sym, subst, ap}
use Rattle.xk_core.specs.Core.{CoreValue, is_running, is_next_local}
use Rattle.xk_core.specs.State.{core_of}
use Rattle.xk_core.specs.LocalRun.{HasRoomForSteps, TakesSteps, RunsTo, AreLocal, IsUnseen}
use Rattle.xk_core.specs.FinishView.{with_finishes}
use Rattle.xk_core.proofs.FinishTreeLemmas.{held, parts}
use Rattle.xk_core.proofs.LocalStepLemmas.{running_told}
use Rattle.xk_core.proofs.NextLocalLemmas.{Ran, unless_running, runner_safe, runner_room, runner_ran}
use Rattle.xk_core.proofs.machine.Core.run.Goals as goal

-- what the steps come to
ran : (c : goal.After-run)
    → Ran c.self.inside.state.module_run c.self.inside.finishes c.self.inside.state.world c.args.act c.args.max c.run.result (core_of c.run.new.self)
ran c =
    let m = c.self.inside.state.module_run in
    let ns = c.self.inside.finishes in
    let w = c.self.inside.state.world in
    let h = held m ns w c.self.invariant in
    let runs : is_running (with_finishes ns w) c.args.act ≡ true =
    running_told ns w h.are.width c.args.act ∙ ap (λ n. is_running w n) (sym c.act.view_is) ∙ sym c.runs.ensures ∙ c.in-true.is in
    let t : TakesSteps (record { module_run = m; world = w }) c.args.act c.args.max c.run.result (core_of c.run.new.self) =
    subst (λ n. TakesSteps (record { module_run = m; world = w }) n c.args.max c.run.result (core_of c.run.new.self)) c.act.view_is c.run.ensures.runs in
    runner_ran m ns w c.args.act h runs c.args.max c.run.result (core_of c.run.new.self) t

pub run-requires-clause-safe : goal.run-requires-clause-safe
run-requires-clause-safe c =
    let m = c.self.inside.state.module_run in
    let ns = c.self.inside.finishes in
    let w = c.self.inside.state.world in
    let h = held m ns w c.self.invariant in
    let runs : is_running (with_finishes ns w) c.args.act ≡ true =
    running_told ns w h.are.width c.args.act ∙ ap (λ n. is_running w n) (sym c.act.view_is) ∙ sym c.runs.ensures ∙ c.in-true.is in
    rw c.act.view_is (runner_safe m ns w c.args.act h runs)

pub run-requires-clause-steps : goal.run-requires-clause-steps
run-requires-clause-steps c =
    let m = c.self.inside.state.module_run in
    let ns = c.self.inside.finishes in
    let w = c.self.inside.state.world in
    let h = held m ns w c.self.invariant in
    let runs : is_running (with_finishes ns w) c.args.act ≡ true =
    running_told ns w h.are.width c.args.act ∙ ap (λ n. is_running w n) (sym c.act.view_is) ∙ sym c.runs.ensures ∙ c.in-true.is in
    subst (λ n. HasRoomForSteps (record { module_run = m; world = w }) n) (sym c.act.view_is) (runner_room m ns w c.args.act h runs)

pub invariant_of-self : goal.invariant_of-self
invariant_of-self c = parts c.run.new.self.module_run c.self.inside.finishes c.run.new.self.world (ran c).held

pub returns-in-true-clause-ran : goal.returns-in-true-clause-ran
returns-in-true-clause-ran c = subst (λ (v : CoreValue). RunsTo v c.args.act c.run.result
    (record { module_run = c.run.new.self.module_run; world = with_finishes c.self.inside.finishes c.run.new.self.world })) c.self.view_is (ran c).goes

pub returns-in-true-clause-local : goal.returns-in-true-clause-local
returns-in-true-clause-local c = subst (λ (v : CoreValue). AreLocal v c.args.act c.run.result) c.self.view_is (ran c).shows

pub returns-in-true-clause-unseen : goal.returns-in-true-clause-unseen
returns-in-true-clause-unseen c = subst (λ (v : CoreValue). IsUnseen v c.args.act c.run.result) c.self.view_is (ran c).hides

pub returns-in-true-clause-stops : goal.returns-in-true-clause-stops
returns-in-true-clause-stops c = (ran c).stops

pub returns-in-false-clause-stops : goal.returns-in-false-clause-stops
returns-in-false-clause-stops c =
    let m = c.self.inside.state.module_run in
    let ns = c.self.inside.finishes in
    let w = c.self.inside.state.world in
    let runs : is_running (with_finishes ns w) c.args.act ≡ false =
    running_told ns w c.self.invariant.1.width c.args.act ∙ ap (λ n. is_running w n) (sym c.act.view_is) ∙ sym c.runs.ensures ∙ c.in-false.is in
    inr (subst (λ (v : CoreValue). is_next_local v c.args.act ≡ false) c.self.view_is (unless_running m (with_finishes ns w) c.args.act runs))
