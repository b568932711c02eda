use Rattle.std.proofs.Common.{◌≡◌, ◌<◌, List, length, set, sym, ap, ◌∙◌, subst, arith}
use Rattle.xk_types.specs.World.{Finish}
use Rattle.xk_finishes.specs.Tree.{NodeValue, node_at, node_ended}
use Rattle.xk_finishes.specs.Counters.{CountIs, CountsOneMore, IsCounting}
use Rattle.xk_finishes.proofs.CounterListLemmas.{read_any}
use Rattle.xk_finishes.proofs.CounterStepLemmas.{counted_until, counting_ended}
use Rattle.xk_finishes.proofs.tree.FinishTree.ended.Goals as goal

pub take-requires : goal.take-requires
take-requires c =
    let nodes = c.self.inside.nodes.items in
    let act = c.act.inside.0 in
    let inside : act < length nodes = omega (arith, ap length c.self.view_is, c.act.view_is, c.requires.exists) in
    let same : node_at nodes act ≡ node_at c.args.self.now c.args.act =
    ap (λ (ns : List NodeValue). node_at ns act) c.self.view_is ∙ ap (node_at c.args.self.now) c.act.view_is in
    let governed = c.governed-governed.ensures ∙ ap (λ (x : NodeValue). x.governed) (read_any nodes act c.index.result.now _ inside c.index.ensures) in
    record {
      some = subst (λ (f : Finish). CountIs (λ n. 0 < n) c.self.inside.counters f) (sym governed)
          (counted_until nodes c.self.inside.counters act c.self.invariant inside (ap (λ (x : NodeValue). x.ended) same ∙ c.requires.runs));
    }

pub invariant_of-self : goal.invariant_of-self
invariant_of-self c =
    let nodes = c.self.inside.nodes.items in
    let act = c.act.inside.0 in
    let inside : act < length nodes = omega (arith, ap length c.self.view_is, c.act.view_is, c.requires.exists) in
    let same : node_at nodes act ≡ node_at c.args.self.now c.args.act =
    ap (λ (ns : List NodeValue). node_at ns act) c.self.view_is ∙ ap (node_at c.args.self.now) c.act.view_is in
    let governed = c.governed-governed.ensures ∙ ap (λ (x : NodeValue). x.governed) (read_any nodes act c.index.result.now _ inside c.index.ensures) in
    let changed = c.end.ensures ∙ ap node_ended (read_any nodes act c.index_mut.result.now _ inside c.index_mut.ensures.value) in
    subst (λ (x : NodeValue). IsCounting (set nodes act x) c.take.new.self) (sym changed)
    (counting_ended nodes c.self.inside.counters c.take.new.self act c.self.invariant inside (ap (λ (x : NodeValue). x.ended) same ∙ c.requires.runs)
    (ap (λ (x : NodeValue). x.opened) same ∙ c.requires.closed)
    (subst (λ (f : Finish). CountsOneMore f c.take.new.self c.self.inside.counters) governed c.take.ensures))
