use Rattle.std.proofs.Common.{◌≡◌, ◌<◌, length, sym, subst, arith}
use Rattle.xk_types.specs.Step.{innermost, is_under}
use Rattle.xk_activity.specs.Activities.{act_at}
use Rattle.xk_core.specs.Core.{CoreValue}
use Rattle.xk_core.specs.FinishView.{with_nodes}
use Rattle.xk_core.proofs.FinishTreeLemmas.{nodes_told}
use Rattle.xk_core.proofs.FinishViewLemmas.{length_told}
use Rattle.xk_core.proofs.GovernorLemmas.{under_at}
use Rattle.xk_core.proofs.machine.Core.is_under.Goals as goal

pub is_under-requires : goal.is_under-requires
is_under-requires c = omega (
  arith,
  subst (λ (v : CoreValue). c.args.owner < length v.world.activities) (sym c.self.view_is) c.requires,
  length_told c.self.inside.finishes c.self.inside.state.world.activities c.self.invariant.1.width,
  c.self.invariant.1.width,
)

pub returns : goal.returns
returns c =
    let m = c.self.inside.state.module_run in
    let ns = c.self.inside.finishes in
    let xs = c.self.inside.state.world.activities in
    let inside : c.args.owner < length (with_nodes ns xs) =
    subst (λ (v : CoreValue). c.args.owner < length v.world.activities) (sym c.self.view_is) c.requires in
    subst (λ (v : CoreValue). c.is_under.result ≡ is_under v.world.activities (innermost c.args.owner (act_at v.world.activities c.args.owner)) c.args.act)
    c.self.view_is
    (under_at (with_nodes ns xs) c.args.owner c.args.act c.is_under.result inside
    (λ x there. c.is_under.ensures.step (with_nodes ns xs) x (nodes_told m ns xs c.self.invariant.1) there))
