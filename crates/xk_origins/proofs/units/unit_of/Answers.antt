use Rattle.xk_tree.specs.Program.{tree_value}
use Rattle.xk_numbering.specs.Views.{part}
use Rattle.xk_origins.proofs.OffsetLemmas.{are_those}
use Rattle.xk_origins.proofs.units.unit_of.Goals as goal

pub returns : goal.returns
returns c = are_those (tree_value c.args.tree.now) (part c.args.p.now) c.args.shared.now c.requires.shared _ _ _ c.head_of.ensures c.in_ok-offsets.ensures c.in_ok-slots.ensures
