use Rattle.std.proofs.Common.{◌≡◌, true, false, ◌∙◌, sym, subst, ap}
use Rattle.xk_activity.specs.Local.{is_stepped, local}
use Rattle.xk_activity.specs.StepAgreement.{frames_in}
use Rattle.xk_activity.specs.Activities.{act_at}
use Rattle.xk_core.specs.Core.{CoreValue, is_running, is_next_local}
use Rattle.xk_core.specs.FinishView.{with_finishes}
use Rattle.xk_core.proofs.FinishTreeLemmas.{held}
use Rattle.xk_core.proofs.LocalStepLemmas.{running_told}
use Rattle.xk_core.proofs.NextLocalLemmas.{unless_running, runner_safe, runner_next}
use Rattle.xk_core.proofs.machine.Core.next_local.Goals as goal

pub is_local-requires-clause-right : goal.is_local-requires-clause-right
is_local-requires-clause-right c =
    let m = c.self.inside.state.module_run in
    let ns = c.self.inside.finishes in
    let w = c.self.inside.state.world in
    let h = held m ns w c.self.invariant in
    let runs : is_running (with_finishes ns w) c.args.act ≡ true =
    running_told ns w h.are.width c.args.act ∙ ap (λ n. is_running w n) (sym c.act.view_is) ∙ sym c.runs.ensures ∙ c.in-true.is in
    rw (c.activities.ensures.module, c.activities.ensures.list, c.act.view_is) (runner_safe m ns w c.args.act h runs 1)

pub returns-in-true : goal.returns-in-true
returns-in-true c =
    let m = c.self.inside.state.module_run in
    let ns = c.self.inside.finishes in
    let w = c.self.inside.state.world in
    let h = held m ns w c.self.invariant in
    let runs : is_running (with_finishes ns w) c.args.act ≡ true =
    running_told ns w h.are.width c.args.act ∙ ap (λ n. is_running w n) (sym c.act.view_is) ∙ sym c.runs.ensures ∙ c.in-true.is in
    subst (λ (v : CoreValue). c.is_local.result ≡ is_next_local v c.args.act) c.self.view_is
    (c.is_local.ensures ∙ ap (λ k. is_stepped (local (frames_in k (act_at c.activities.result.now.list c.act.inside.0)))) c.activities.ensures.module
    ∙ ap (λ l. is_stepped (local (frames_in m (act_at l c.act.inside.0)))) c.activities.ensures.list ∙ ap (λ n. is_stepped (local (frames_in m (act_at w.activities n)))) c.act.view_is ∙ runner_next m ns w c.args.act h runs)

pub returns-in-false : goal.returns-in-false
returns-in-false c =
    let m = c.self.inside.state.module_run in
    let ns = c.self.inside.finishes in
    let w = c.self.inside.state.world in
    let h = held m ns w c.self.invariant in
    let runs : is_running (with_finishes ns w) c.args.act ≡ false =
    running_told ns w h.are.width c.args.act ∙ ap (λ n. is_running w n) (sym c.act.view_is) ∙ sym c.runs.ensures ∙ c.in-false.is in
    subst (λ (v : CoreValue). false ≡ is_next_local v c.args.act) c.self.view_is (sym (unless_running m (with_finishes ns w) c.args.act runs))
