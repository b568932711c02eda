use Rattle.std.proofs.Common.{◌<◌, List, length, set, sym, ap, ◌∙◌, subst, arith}
use Rattle.xk_finishes.specs.Tree.{NodeValue, node_left, awaits_innermost}
use Rattle.xk_finishes.specs.Counters.{IsCounting}
use Rattle.xk_finishes.proofs.CounterListLemmas.{read_any}
use Rattle.xk_finishes.proofs.CounterStepLemmas.{counting_left}
use Rattle.xk_finishes.proofs.tree.FinishTree.leave.Goals as goal

pub invariant_of-self : goal.invariant_of-self
invariant_of-self c =
    let nodes = c.self.inside.nodes.items in
    let act = c.act.inside.0 in
    let inside : act < length nodes = omega (arith, ap length c.self.view_is, c.act.view_is, c.requires.exists) in
    let empty = ap (λ (ns : List NodeValue). awaits_innermost ns act) c.self.view_is ∙ ap (awaits_innermost c.args.self.now) c.act.view_is ∙ c.requires.empty in
    let changed = c.leave.ensures ∙ ap node_left (read_any nodes act c.index_mut.result.now _ inside c.index_mut.ensures.value) in
    subst (λ (x : NodeValue). IsCounting (set nodes act x) c.self.inside.counters) (sym changed)
    (counting_left nodes c.self.inside.counters act c.self.invariant inside empty)
