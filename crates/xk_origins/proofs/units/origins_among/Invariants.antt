use Rattle.std.proofs.Common.{◌≡◌, ◌++◌, drop, map}
use Rattle.xk_tree.specs.Program.{tree_value}
use Rattle.xk_numbering.specs.Views.{part}
use Rattle.xk_origins.specs.UnitOrigins.{unit_origins}
use Rattle.xk_origins.proofs.units.origins_among.Given as goal

-- those made so far and those of the units that are left are those of all
abbrev pub invariant-loop-p : goal.invariant-loop-p
invariant-loop-p l =
    l.made.items ++ map (unit_origins (tree_value l.tree)) (map part (drop l.p-index l.units)) ≡ map (unit_origins (tree_value l.tree)) (map part l.units)
