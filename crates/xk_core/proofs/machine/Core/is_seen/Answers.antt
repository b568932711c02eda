use Rattle.std.specs.Bool.{Decides}
use Rattle.std.proofs.Common.{◌≡◌, true, not, sym, subst, ap, ◌∙◌}
use Rattle.xk_activity.specs.Local.{is_stepped, local}
use Rattle.xk_activity.specs.StepAgreement.{frames_in}
use Rattle.xk_activity.specs.Activities.{act_at}
use Rattle.xk_core.specs.Core.{CoreValue, IsBeyond, is_running}
use Rattle.xk_core.specs.FinishView.{with_finishes}
use Rattle.xk_core.proofs.FinishTreeLemmas.{held}
use Rattle.xk_core.proofs.LocalStepLemmas.{local_there, local_right, seen_decides}
use Rattle.xk_core.proofs.machine.Core.is_seen.Goals as goal

pub is_local-requires-clause-there : goal.is_local-requires-clause-there
is_local-requires-clause-there c =
    let m = c.self.inside.state.module_run in
    let ns = c.self.inside.finishes in
    let w = c.self.inside.state.world in
    let h = held m ns w c.self.invariant in
    let runs : is_running (with_finishes ns w) c.args.act ≡ true = subst (λ (v : CoreValue). is_running v.world c.args.act ≡ true) (sym c.self.view_is) c.requires in
    rw (c.activities.ensures.list, c.act.view_is) (local_there m ns w c.args.act h runs)

pub is_local-requires-clause-right : goal.is_local-requires-clause-right
is_local-requires-clause-right c =
    let m = c.self.inside.state.module_run in
    let ns = c.self.inside.finishes in
    let w = c.self.inside.state.world in
    let h = held m ns w c.self.invariant in
    let runs : is_running (with_finishes ns w) c.args.act ≡ true = subst (λ (v : CoreValue). is_running v.world c.args.act ≡ true) (sym c.self.view_is) c.requires in
    rw (c.activities.ensures.module, c.activities.ensures.list, c.act.view_is) (local_right m ns w c.args.act h runs)

pub returns : goal.returns
returns c =
    let m = c.self.inside.state.module_run in
    let ns = c.self.inside.finishes in
    let w = c.self.inside.state.world in
    let h = held m ns w c.self.invariant in
    let runs : is_running (with_finishes ns w) c.args.act ≡ true = subst (λ (v : CoreValue). is_running v.world c.args.act ≡ true) (sym c.self.view_is) c.requires in
    subst (λ (v : CoreValue). Decides (not c.is_local.result) (IsBeyond v c.args.act)) c.self.view_is
    (seen_decides m ns w c.args.act h runs c.is_local.result
    (c.is_local.ensures ∙ ap (λ k. is_stepped (local (frames_in k (act_at c.activities.result.now.list c.act.inside.0)))) c.activities.ensures.module
    ∙ ap (λ l. is_stepped (local (frames_in m (act_at l c.act.inside.0)))) c.activities.ensures.list ∙ ap (λ n. is_stepped (local (frames_in m (act_at w.activities n)))) c.act.view_is))
