use Rattle.std.proofs.Common.{◌∙◌, ap, sym, Some}
use Rattle.xk_tree.specs.Tree.{words}
use Rattle.xk_callgraph.proofs.CallGraphLemmas.{names_at}
use Rattle.xk_callgraph.proofs.recursion.callees_of.Goals as goal

pub returns : goal.returns
returns c = names_at c.args.called.now c.args.i c.index-called-i.result c.requires c.index-called-i.is ∙ ap (λ ns. Some (words ns)) (sym c.deref.ensures.value)
