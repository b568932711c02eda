use Rattle.std.proofs.Common.{◌≡◌, ◌<◌, length, ◌∙◌, sym, subst, ap, arith}
use Rattle.xk_activity.specs.Activities.{act_at}
use Rattle.xk_activity.specs.StepAgreement.{frames_in}
use Rattle.xk_core.specs.Core.{CoreValue}
use Rattle.xk_core.proofs.NextLocalLemmas.{frames_told}
use Rattle.xk_core.proofs.FinishViewLemmas.{length_told}
use Rattle.xk_core.proofs.machine.Core.frames.Goals as goal

pub frames-requires : goal.frames-requires
frames-requires c =
    let lt : c.args.act < length c.self.inside.state.world.activities = omega (
      arith,
      subst (λ (v : CoreValue). c.args.act < length v.world.activities) (sym c.self.view_is) c.requires,
      length_told c.self.inside.finishes c.self.inside.state.world.activities c.self.invariant.1.width,
    ) in
    rw (c.activities.ensures.list, c.act.view_is) lt

pub returns : goal.returns
returns c =
    let m = c.self.inside.state.module_run in
    let ns = c.self.inside.finishes in
    let w = c.self.inside.state.world in
    let lt : c.args.act < length w.activities = omega (
      arith,
      subst (λ (v : CoreValue). c.args.act < length v.world.activities) (sym c.self.view_is) c.requires,
      length_told ns w.activities c.self.invariant.1.width,
    ) in
    subst (λ (v : CoreValue). c.frames.result.now ≡ frames_in v.module_run (act_at v.world.activities c.args.act)) c.self.view_is
    (c.frames.ensures ∙ ap (λ k. frames_in k (act_at c.activities.result.now.list c.act.inside.0)) c.activities.ensures.module ∙ ap (λ l. frames_in m (act_at l c.act.inside.0)) c.activities.ensures.list
    ∙ ap (λ n. frames_in m (act_at w.activities n)) c.act.view_is ∙ frames_told m ns w c.self.invariant.1.width c.args.act lt)
