use Rattle.std.proofs.Common.{◌+◌, ◌++◌, ◌∷◌, [], ℕ, List, map, drop, ap, sym, ◌∙◌, refl, append_assoc}
use Rattle.xk_callgraph.specs.CallGraph.{adjacency}
use Rattle.xk_source_semantics.specs.Parts.{Part, part_runs}
use Rattle.xk_source_semantics.specs.PartGraph.{graph_by}
use Rattle.xk_numbering.specs.PartPlaces.{place_in}
use Rattle.xk_numbering.specs.Views.{part}
use Rattle.xk_numbering.proofs.ListLemmas.{parts_left}
use Rattle.xk_numbering.proofs.part_graph.Places.graph.Goals as goal

pub loop-p-preserved : goal.loop-p-preserved
loop-p-preserved c =
    let place = place_in c.args.self.now in
    let i = c.loop-p.p-index in
    let ps = c.args.parts.now in
    let p = c.p-item.result in
    let before = adjacency c.loop-p.lists.items in
    let rest = graph_by place (map part (drop (i + 1) ps)) in
    ap (λ (l : List (List ℕ)). l ++ rest) c.in_ok-add_list.ensures
    ∙ append_assoc before (map place (part_runs (part p)) ∷ []) rest
    ∙ ap (λ (qs : List Part). before ++ graph_by place qs) (sym (parts_left ps i p (part p) c.loop-p-test.true c.p-item.is refl))
    ∙ c.loop-p.invariant
