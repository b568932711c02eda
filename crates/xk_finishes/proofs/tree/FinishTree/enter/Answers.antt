use Rattle.std.proofs.Common.{◌<◌, length, set, sym, ap, ◌∙◌, subst, arith}
use Rattle.xk_finishes.specs.Tree.{NodeValue, node_entered}
use Rattle.xk_finishes.specs.Counters.{IsCounting}
use Rattle.xk_finishes.proofs.CounterListLemmas.{read_any}
use Rattle.xk_finishes.proofs.CounterStepLemmas.{counting_entered}
use Rattle.xk_finishes.proofs.tree.FinishTree.enter.Goals as goal

pub invariant_of-self : goal.invariant_of-self
invariant_of-self c =
    let nodes = c.self.inside.nodes.items in
    let act = c.act.inside.0 in
    let inside : act < length nodes = omega (arith, ap length c.self.view_is, c.act.view_is, c.requires.exists) in
    let changed = c.enter.ensures ∙ ap node_entered (read_any nodes act c.index_mut.result.now _ inside c.index_mut.ensures.value) in
    subst (λ (x : NodeValue). IsCounting (set nodes act x) c.self.inside.counters) (sym changed)
    (counting_entered nodes c.self.inside.counters act c.self.invariant inside)
