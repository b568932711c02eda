use Rattle.std.proofs.Common.{◌≡◌, ◌++◌, drop, map}
use Rattle.xk_tree.specs.Tree.{statements}
use Rattle.xk_source_semantics.specs.Parts.{runs_all}
use Rattle.xk_numbering.specs.PartPlaces.{place_in}
use Rattle.xk_numbering.proofs.part_graph.Places.+runs.Given as goal

-- the places found so far and those of the statements that are left are those of all
abbrev pub invariant-add_all_runs-loop-s : goal.invariant-add_all_runs-loop-s
invariant-add_all_runs-loop-s l =
    l.found.items ++ map (place_in l.self) (runs_all (statements (drop l.s-index l.ss))) ≡ l.fn.found.items ++ map (place_in l.self) (runs_all (statements l.ss))
