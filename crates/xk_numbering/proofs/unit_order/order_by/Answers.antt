use Rattle.std.proofs.Common.{ℕ, List, sym, subst, arith}
use Rattle.std.proofs.lemmas.List.{length-map}
use Rattle.xk_callgraph.specs.CallGraph.{AreWithin, AreReached, IsRecursive}
use Rattle.xk_callgraph.specs.TopologicalOrder.{AreLeast, IsInOrder}
use Rattle.xk_tree.specs.Program.{tree_value}
use Rattle.xk_source_semantics.specs.PartGraph.{IsOrder}
use Rattle.xk_source_semantics.specs.Parts.{parts}
use Rattle.xk_numbering.proofs.PartRecursionLemmas.{never_again}
use Rattle.xk_numbering.proofs.UnitOrderLemmas.{within}
use Rattle.xk_numbering.proofs.PartGraphLemmas.{main_within}
use Rattle.xk_numbering.proofs.unit_order.order_by.Goals as goal

pub order_from-requires-clause-within : goal.order_from-requires-clause-within
order_from-requires-clause-within c = subst (λ (r : List (List ℕ)). AreWithin r) (sym c.requires.graph) (within (parts (tree_value c.args.tree.now)))

pub order_from-requires-clause-start : goal.order_from-requires-clause-start
order_from-requires-clause-start c =
    let h = main_within (tree_value c.args.tree.now) c.args.main _ c.requires.begins c.requires.graph in
    let long = length-map c.args.lists.now (λ v. v.items) in
    omega arith

pub returns : goal.returns
returns c =
    let same = c.requires.graph in
    let order : IsOrder (tree_value c.args.tree.now) c.in-Ok.order.items = record {
      start = c.args.main;
      begins = c.requires.begins;
      first = rw c.in-Ok.is at c.in_ok-order.ensures.first;
      reached = subst (λ (r : List (List ℕ)). AreReached r c.args.main c.in-Ok.order.items) same (rw c.in-Ok.is at c.in_ok-order.ensures.reached);
      later = subst (λ (r : List (List ℕ)). IsInOrder r c.in-Ok.order.items) same (rw c.in-Ok.is at c.in_ok-order.ensures.later);
      once = rw c.in-Ok.is at c.in_ok-order.ensures.once;
      least = subst (λ (r : List (List ℕ)). AreLeast r c.args.main c.in-Ok.order.items) same (rw c.in-Ok.is at c.in_ok-order.ensures.least);
    } in record { order = order }

pub unreachable-requires : goal.unreachable-requires
unreachable-requires c =
    let place = c.in-Err.field-0 in
    never_again (tree_value c.args.tree.now) c.args.tree.now.apart c.requires.scoped c.requires.falls place.caller place.index
    (subst (λ (r : List (List ℕ)). IsRecursive r place.caller place.index) c.requires.graph (rw c.in-Err.is at c.in_ok-order.ensures.found))
