use Rattle.std.proofs.Common.{◌<◌, length, sym, subst, arith}
use Rattle.std.specs.Bool.{Decides}
use Rattle.xk_activity.specs.Activities.{act_at}
use Rattle.xk_core.specs.Core.{CoreValue}
use Rattle.xk_core.specs.Alikeness.{AreUnderSameFinishes}
use Rattle.xk_core.specs.FinishView.{with_nodes}
use Rattle.xk_core.proofs.FinishViewLemmas.{length_told}
use Rattle.xk_core.proofs.AlikenessLemmas.{finishes_told}
use Rattle.xk_core.proofs.machine.Core.has_same_finishes.Goals as goal

pub has_same_finishes-requires-clause-here : goal.has_same_finishes-requires-clause-here
has_same_finishes-requires-clause-here c = omega (
  arith,
  subst (λ (v : CoreValue). c.args.act < length v.world.activities) (sym c.self.view_is) c.requires.here,
  length_told c.self.inside.finishes c.self.inside.state.world.activities c.self.invariant.1.width,
  c.self.invariant.1.width,
)

pub has_same_finishes-requires-clause-there : goal.has_same_finishes-requires-clause-there
has_same_finishes-requires-clause-there c = omega (
  arith,
  subst (λ (v : CoreValue). c.args.act < length v.world.activities) (sym c.other.view_is) c.requires.there,
  length_told c.other.inside.finishes c.other.inside.state.world.activities c.other.invariant.1.width,
  c.other.invariant.1.width,
)

pub returns : goal.returns
returns c =
    let xs = c.self.inside.state.world.activities in
    let ys = c.other.inside.state.world.activities in
    let here : c.args.act < length xs = omega (
      arith,
      subst (λ (v : CoreValue). c.args.act < length v.world.activities) (sym c.self.view_is) c.requires.here,
      length_told c.self.inside.finishes xs c.self.invariant.1.width,
    ) in
    let there : c.args.act < length ys = omega (
      arith,
      subst (λ (v : CoreValue). c.args.act < length v.world.activities) (sym c.other.view_is) c.requires.there,
      length_told c.other.inside.finishes ys c.other.invariant.1.width,
    ) in
    let told = finishes_told c.self.inside.finishes c.other.inside.finishes xs ys c.args.act c.self.invariant.1.width c.other.invariant.1.width here there
    c.has_same_finishes.result c.has_same_finishes.ensures in
    subst (λ (v : CoreValue). Decides c.has_same_finishes.result (AreUnderSameFinishes (act_at c.args.self.now.world.activities c.args.act) (act_at v.world.activities c.args.act)))
    c.other.view_is
    (subst (λ (v : CoreValue). Decides c.has_same_finishes.result (AreUnderSameFinishes (act_at v.world.activities c.args.act)
    (act_at (with_nodes c.other.inside.finishes ys) c.args.act))) c.self.view_is told)
