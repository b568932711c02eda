use Rattle.std.proofs.Common.{◌≡◌, ◌-◌, ◌≤◌, List, true, false, ltb, leb, length, take, drop, ap, subst, sym, rules, arith}
use Rattle.std.specs.List.Sorted.{IsPartitionPoint}
use Rattle.std.proofs.lemmas.List.Sorted.{IsPartitionPoint-from_clause, IsPartitionedBy-leb, IsPartitionedBy-ltb}
use Rattle.xk_readings.specs.declared.edge.Edge.{Edge}
use Rattle.xk_readings.specs.Graphs.{AreFrom, AreSorted, GraphValue}
use Rattle.xk_readings.proofs.GraphLemmas.{are_from, in_range}
use Rattle.xk_readings.proofs.graph.Graph.edges_from.Goals.{After-deref-3}
use Rattle.xk_readings.proofs.graph.Graph.edges_from.Goals as goal

below : (c : After-deref-3)
    → IsPartitionPoint (λ (e : Edge). ltb e.from c.args.node ≡ true)
    (λ (e : Edge). ltb e.from c.args.node ≡ false) c.self.inside.edges.items c.partition_point-start.result
below c =
    subst (λ (l : List Edge). IsPartitionPoint (λ (e : Edge). ltb e.from c.args.node ≡ true)
    (λ (e : Edge). ltb e.from c.args.node ≡ false) l c.partition_point-start.result)
    c.deref.ensures.value
    (IsPartitionPoint-from_clause (λ (e : Edge). ltb e.from c.args.node) c.deref.result.now c.partition_point-start.result
    c.partition_point-start.ensures.partitioned
    (IsPartitionedBy-ltb (λ (e : Edge). e.from) c.deref.result.now c.args.node
    (subst AreSorted (sym c.deref.ensures.value) c.self.invariant)) (λ a r q k. search rules))

upto : (c : After-deref-3)
    → IsPartitionPoint (λ (e : Edge). leb e.from c.args.node ≡ true)
    (λ (e : Edge). leb e.from c.args.node ≡ false) c.self.inside.edges.items c.partition_point-end.result
upto c =
    subst (λ (l : List Edge). IsPartitionPoint (λ (e : Edge). leb e.from c.args.node ≡ true)
    (λ (e : Edge). leb e.from c.args.node ≡ false) l c.partition_point-end.result)
    c.deref-2.ensures.value
    (IsPartitionPoint-from_clause (λ (e : Edge). leb e.from c.args.node) c.deref-2.result.now c.partition_point-end.result
    c.partition_point-end.ensures.partitioned
    (IsPartitionedBy-leb (λ (e : Edge). e.from) c.deref-2.result.now c.args.node
    (subst AreSorted (sym c.deref-2.ensures.value) c.self.invariant)) (λ a r q k. search rules))

ordered : (c : After-deref-3) → c.partition_point-start.result ≤ c.partition_point-end.result
ordered c =
    let start = c.partition_point-start.ensures.bound in
    let end = c.partition_point-end.ensures.bound in
    let first = ap length c.deref.ensures.value in
    let second = ap length c.deref-2.ensures.value in
    in_range c.self.inside.edges.items c.args.node c.partition_point-start.result c.partition_point-end.result (below c) (upto c)
    (omega (arith, start, first)) (omega (arith, end, second))

pub slice_bounds-result-count : goal.slice_bounds-result-count
slice_bounds-result-count c = ordered (goal.at.slice_bounds-result-count c).After-deref-3

pub slice_bounds-result-start : goal.slice_bounds-result-start
slice_bounds-result-start c =
    let is : c.partition_point-start.result ≤ c.partition_point-end.result = ordered (goal.at.slice_bounds-result-start c).After-deref-3 in
    search rules

pub returns : goal.returns
returns c =
    let known = (goal.at.returns c).After-deref-3 in
    let start = c.partition_point-start.result in
    let end = c.partition_point-end.result in
    let edges = c.self.inside.edges.items in
    subst (λ (l : List Edge). AreFrom c.args.self.now c.args.node (take (end - start) (drop start l))) (sym c.deref-3.ensures.value)
    (subst (λ (g : GraphValue). AreFrom g c.args.node (take (end - start) (drop start edges))) c.self.view_is
    (are_from edges c.args.node start end (below known) (upto known) c.self.inside.ends.items (ordered known)))
