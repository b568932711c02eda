use Rattle.std.proofs.Common.{◌++◌, ℕ, suc, List, map, drop, length, ap, ◌∙◌, add-one}
use Rattle.std.specs.Prelude.{unwrap_or}
use Rattle.xk_callgraph.specs.CallGraph.{adjacency}
use Rattle.xk_tree.specs.Tree.{Word, words}
use Rattle.xk_names.specs.Scope.{find}
use Rattle.xk_callgraph.proofs.NameNumberLemmas.{rows_step}
use Rattle.xk_callgraph.proofs.callees.called_numbers.Goals as goal

pub loop-names-preserved : goal.loop-names-preserved
loop-names-preserved c =
    let k = c.loop-names.names-index in
    let numbers : List Word → List ℕ = λ gs. map (λ g. unwrap_or (find c.args.table.now g.text) (length c.args.called.now)) gs in
    ap (λ j. adjacency c.push.new.self.items ++ map numbers (map (λ names. words names.items) (drop j c.args.called.now))) (add-one k)
    ∙ ap (λ vs. adjacency vs ++ map numbers (map (λ names. words names.items) (drop (suc k) c.args.called.now))) c.in_ok-push.ensures.items
    ∙ rows_step numbers c.loop-names.numbers.items c.in_ok-numbers_of.field-0 c.args.called.now k c.names-item.result c.loop-names-test.true c.names-item.is
    (c.in_ok-numbers_of.ensures ∙ ap numbers (ap words c.deref.ensures.value))
    ∙ c.loop-names.invariant
