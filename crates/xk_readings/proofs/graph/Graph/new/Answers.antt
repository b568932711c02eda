use Rattle.std.proofs.Common.{◌≡◌, rules}
use Rattle.xk_readings.specs.declared.edge.Edge.{Edge}
use Rattle.std.proofs.lemmas.List.Sorted.{IsNonDecreasingBy-from_sort_by_key}
use Rattle.xk_readings.proofs.GraphLemmas.{same_edges}
use Rattle.xk_readings.proofs.graph.Graph.new.Goals as goal

pub invariant_of-result : goal.invariant_of-result
invariant_of-result c =
    IsNonDecreasingBy-from_sort_by_key (λ (e : Edge). e.from) c.sort_by_key.new.self.items c.in_ok-sort_by_key.ensures.sorted
    (λ a r q k. search rules)

pub returns : goal.returns
returns c =
    let same : c.in_ok-ends.ends.items ≡ c.args.ends.now = search rules in
    same_edges c.args.edges.items c.sort_by_key.new.self.items c.args.ends.now c.in_ok-ends.ends.items c.sort_by_key.ensures.permutation
    same
