use Rattle.std.proofs.Common.{◌≡◌, ◌<◌, length, ◌∙◌, sym, subst, ap, arith}
use Rattle.xk_activity.specs.Activities.{act_at}
use Rattle.xk_core.specs.Core.{CoreValue}
use Rattle.xk_core.proofs.FinishViewLemmas.{length_told}
use Rattle.xk_core.proofs.AlikenessLemmas.{status_told}
use Rattle.xk_core.proofs.machine.Core.status.Goals as goal

pub status-requires : goal.status-requires
status-requires c =
    let lt : c.args.act < length c.self.inside.state.world.activities = omega (
      arith,
      subst (λ (v : CoreValue). c.args.act < length v.world.activities) (sym c.self.view_is) c.requires,
      length_told c.self.inside.finishes c.self.inside.state.world.activities c.self.invariant.1.width,
    ) in
    rw (c.activities.ensures.list, c.act.view_is) lt

pub returns : goal.returns
returns c =
    let ns = c.self.inside.finishes in
    let w = c.self.inside.state.world in
    let lt : c.args.act < length w.activities = omega (
      arith,
      subst (λ (v : CoreValue). c.args.act < length v.world.activities) (sym c.self.view_is) c.requires,
      length_told ns w.activities c.self.invariant.1.width,
    ) in
    subst (λ (v : CoreValue). c.status.result ≡ (act_at v.world.activities c.args.act).status) c.self.view_is
    (c.status.ensures ∙ ap (λ l. (act_at l c.act.inside.0).status) c.activities.ensures.list ∙ ap (λ n. (act_at w.activities n).status) c.act.view_is
    ∙ status_told ns w.activities c.args.act c.self.invariant.1.width lt)
