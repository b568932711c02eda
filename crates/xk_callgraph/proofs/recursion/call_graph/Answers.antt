use Rattle.std.proofs.Common.{◌∙◌, ap, sym, length, map, List}
use Rattle.std.proofs.lemmas.List.{length-map}
use Rattle.xk_tree.specs.Tree.{method_value, words}
use Rattle.xk_tree.specs.declared.tree.Method.{Method}
use Rattle.xk_callgraph.specs.Recursion.{number_among}
use Rattle.xk_callgraph.proofs.CallGraphLemmas.{graph_is}
use Rattle.xk_callgraph.proofs.recursion.call_graph.Goals as goal

pub returns : goal.returns
returns c =
    c.in_ok-numbers.ensures
    ∙ graph_is (map (λ names. words names.items) c.args.called.now) (map method_value c.args.tree.now.methods.items) c.in_ok-table.table (length c.args.called.now) c.requires
    (sym (length-map c.args.called.now (λ names. words names.items)))
    (λ x. c.in_ok-table.ensures x ∙ ap (λ (ms : List Method). number_among 0 (map method_value ms) x) c.deref.ensures.value)
