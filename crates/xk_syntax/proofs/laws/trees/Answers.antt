use Rattle.xk_syntax.proofs.TextLemmas.{one_tree}
use Rattle.xk_syntax.proofs.laws.trees.Goals as goal

pub returns : goal.returns
returns c = one_tree
