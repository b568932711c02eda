use Rattle.std.proofs.Common.{ℕ, ◌+◌, Some, cond, map, drop, Option, List, ap, sym, ◌∙◌, add-one}
use Rattle.xk_tree.specs.Tree.{method_value, clock_list, statement}
use Rattle.std.specs.Prelude.{option_map}
use Rattle.std.specs.Option.{option_or}
use Rattle.xk_names.specs.Scope.{find, is_text}
use Rattle.xk_callgraph.proofs.NameNumberLemmas.{put_number}
use Rattle.xk_source_semantics.specs.Parts.{Part, OfMethod, OfBody, method_among}
use Rattle.xk_numbering.specs.Views.{part}
use Rattle.xk_numbering.proofs.ListLemmas.{parts_left}
use Rattle.xk_numbering.proofs.part_graph.method_places.Goals as goal
use Rattle.xk_numbering.proofs.part_graph.method_places.Goals.{in-Method+in_ok-put-in-Method, in-Body}

pub loop-i-preserved : goal.loop-i-preserved
loop-i-preserved c = λ x.
    let i = c.loop-i.i in
    let rest : List Part = map part (drop (i + 1) c.args.parts.now) in
    let first : List Part → Option ℕ = λ ps. option_or (find c.loop-i.table x) (method_among i ps x) in
    elim c.match-p.branch [
      | in-Method+in_ok-put-in-Method w ↦
          ap (λ t. option_or (find t x) (method_among (i + 1) rest x)) (w.table-is ∙ w.in_ok-put-in-Method.ensures.entry)
          ∙ put_number c.loop-i.table w.in-Method.method.now.name.text.now x i (method_among (i + 1) rest x)
          ∙ ap (λ j. option_or (find c.loop-i.table x) (cond (is_text x w.in-Method.method.now.name.text.now) (Some i) (method_among j rest x))) (add-one i)
          ∙ ap first (sym (parts_left c.args.parts.now i c.index-parts-i.result (OfMethod (method_value w.in-Method.method.now)) c.loop-i-test.true c.index-parts-i.is (ap part w.in-Method.is)))
          ∙ c.loop-i.invariant x
      | in-Body w ↦
          ap (λ t. option_or (find t x) (method_among (i + 1) rest x)) w.table-is
          ∙ ap (λ j. option_or (find c.loop-i.table x) (method_among j rest x)) (add-one i)
          ∙ ap first (sym (parts_left c.args.parts.now i c.index-parts-i.result
          (OfBody w.in-Body.field-0 (option_map clock_list w.in-Body.field-1.now) (statement w.in-Body.field-2.now)) c.loop-i-test.true c.index-parts-i.is (ap part w.in-Body.is)))
          ∙ c.loop-i.invariant x
    ]
