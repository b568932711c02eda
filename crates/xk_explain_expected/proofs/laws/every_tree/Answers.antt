use Rattle.xk_explain_expected.proofs.TextTaken.{every_tree_taken}
use Rattle.xk_explain_expected.proofs.laws.every_tree.Goals as goal

pub returns : goal.returns
returns c = every_tree_taken
