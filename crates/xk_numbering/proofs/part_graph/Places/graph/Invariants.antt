use Rattle.std.proofs.Common.{◌≡◌, ◌++◌, drop, map}
use Rattle.xk_callgraph.specs.CallGraph.{adjacency}
use Rattle.xk_source_semantics.specs.PartGraph.{graph_by}
use Rattle.xk_numbering.specs.PartPlaces.{place_in}
use Rattle.xk_numbering.specs.Views.{part}
use Rattle.xk_numbering.proofs.part_graph.Places.graph.Given as goal

-- the lists so far and those of the parts that are left are those of all
abbrev pub invariant-loop-p : goal.invariant-loop-p
invariant-loop-p l = adjacency l.lists.items ++ graph_by (place_in l.self) (map part (drop l.p-index l.parts)) ≡ graph_by (place_in l.self) (map part l.parts)
