use Rattle.std.proofs.Common.{◌∙◌, map, ap}
use Rattle.xk_callgraph.specs.CallGraph.{adjacency}
use Rattle.xk_tree.specs.Program.{tree_value}
use Rattle.xk_numbering.specs.Views.{part}
use Rattle.xk_numbering.proofs.PartGraphLemmas.{is_graph, main_there}
use Rattle.xk_numbering.proofs.unit_order.order_among.Goals as goal

pub order_by-requires-clause-graph : goal.order_by-requires-clause-graph
order_by-requires-clause-graph c =
    is_graph (tree_value c.args.tree.now) (map part c.args.found.now) c.args.places.now (adjacency c.deref.result.now) c.requires.parts c.requires.places
    (ap adjacency c.deref.ensures.value ∙ c.in_ok-lists.ensures)

pub order_by-requires-clause-begins : goal.order_by-requires-clause-begins
order_by-requires-clause-begins c =
    main_there (tree_value c.args.tree.now) (map part c.args.found.now) c.args.places.now c.method.result c.requires.scoped c.requires.parts
    c.requires.places c.method.ensures
