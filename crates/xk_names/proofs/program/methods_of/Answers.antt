use Rattle.std.proofs.Common.{List, [], map, ap, ◌∙◌}
use Rattle.xk_tree.specs.declared.tree.Method.{Method}
use Rattle.xk_tree.specs.Tree.{method_value}
use Rattle.xk_tree.specs.Program.{tree_value}
use Rattle.xk_names.specs.FaultList.{put_methods}
use Rattle.xk_names.proofs.SignatureLemmas.{scoped_signatures}
use Rattle.xk_names.proofs.program.methods_of.Goals as goal

pub returns-clause-scoped : goal.returns-clause-scoped
returns-clause-scoped c = λ scoped.
    c.in_ok-put_methods.ensures.methods ∙ ap (λ k. put_methods k (map method_value c.as_slice.result.now)) c.new-methods.ensures ∙ ap (λ (k : List Method). put_methods [] (map method_value k)) c.as_slice.ensures.value
    ∙ scoped_signatures (tree_value c.args.tree.now) scoped
